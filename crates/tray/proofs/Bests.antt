-- The best of a list is what is chosen from it, and nothing else is.
use Rattle.std.proofs.Common.{◌≡◌, ℕ, zero, suc, ◌-◌, ◌<◌, Bool, true, false, List, [], ◌∷◌, length, get_or, Some, None, Option, sym, refl, ap, ◌∙◌, subst, inl, inr, sub-one, arith}
use Rattle.std.proofs.lemmas.Bool.{cases_Bool, cases_order, cond_both, cond-true, cond-false, both_ways}
use Rattle.std.proofs.ByRecursion.{All-from_get_or}
use Rattle.std.specs.List.{AllByRecursion as All}
use Rattle.std.proofs.lemmas.List.{nil_from_length}
use Rattle.std.proofs.lemmas.Option.{get_or_from_slice_get, none-some, same_Some}
use Rattle.tray.specs.Best.{Top, Best, Chosen, better, best_of}
use Rattle.tray.specs.Items.{element}

-- what stands at a place, read at any default
pub element_getD : {T : Type 0} (xs : List T) (p : ℕ) (x d : T) → element xs p ≡ Some x → get_or xs (p - 1) d ≡ x
element_getD xs zero x d e = absurd (none-some x e)
element_getD xs (suc i) x d e = rw sub-one (get_or_from_slice_get xs i x d e)

module _ {T : Type 0} (prefers : T → T → Bool) where
  -- two places that are both the first are one
  same_place : (xs : List T) (p q : ℕ) → Best prefers xs (Some p) → Best prefers xs (Some q) → p ≡ q
  same_place xs p q a b = elim (cases_order p q) [
    | inl e ↦ e
    | inr o ↦ elim o [ inl h ↦ absurd (b.1 p h a.0) | inr h ↦ absurd (a.1 q h b.0) ]
  ]

  pub chosen_same : (xs : List T) (r s : Option T) → Chosen prefers xs r → Chosen prefers xs s → r ≡ s
  chosen_same xs None None a b = refl
  chosen_same xs None (Some y) a (q, b, e) = absurd (omega (arith, b.0.0, b.0.1))
  chosen_same xs (Some x) None (p, a, d) b = absurd (omega (arith, a.0.0, a.0.1))
  chosen_same xs (Some x) (Some y) (p, a, d) (q, b, e) = sym d ∙ (ap (element xs) (same_place xs p q a b) ∙ e)

  module _ (total : (x y : T) → prefers x y ≡ false → prefers y x ≡ true) (transitive : (x y z : T) → prefers x y ≡ true → prefers y z ≡ true → prefers x z ≡ true) where
    itself : (x : T) → prefers x x ≡ true
    itself x = elim (cases_Bool (prefers x x)) [ inl e ↦ e | inr e ↦ total x x e ]

    -- an element in front that is preferred to the best of the rest
    front_best : (x y : T) (xs : List T) → ((k : ℕ) (d : T) → k < length xs → prefers y (get_or xs k d) ≡ true) → prefers x y ≡ true → Chosen prefers (x ∷ xs) (Some x)
    front_best x y xs above e = (
      1,
      ((omega arith, omega arith, top), λ q h t. omega (arith, t.0)),
      refl,
    ) where
      top : (k : ℕ) (d : T) → k < length (x ∷ xs) → prefers x (get_or (x ∷ xs) k d) ≡ true
      top zero d h = itself x
      top (suc k) d h = transitive x y (get_or xs k d) e (above k d (omega arith))

    -- the best of the rest, preferred to the element in front
    rest_best : (x y : T) (xs : List T) (p : ℕ) → Best prefers xs (Some p) → element xs p ≡ Some y → prefers x y ≡ false → Chosen prefers (x ∷ xs) (Some y)
    rest_best x y xs zero b is e = absurd (omega (arith, b.0.0))
    rest_best x y xs (suc i) b is e = (
      suc (suc i),
      ((omega arith, omega (arith, b.0.1), λ k d h. rw sub-one (top k d h)), first),
      is,
    ) where
      here : (d : T) → get_or xs i d ≡ y
      here d = get_or_from_slice_get xs i y d is

      top : (k : ℕ) (d : T) → k < length (x ∷ xs) → prefers (get_or xs i d) (get_or (x ∷ xs) k d) ≡ true
      top zero d h = subst (λ (z : T). prefers z x ≡ true) (sym (here d)) (total x y e)
      top (suc k) d h = rw sub-one at (b.0.2 k d (omega arith))

      first : (q : ℕ) → q < suc (suc i) → Top prefers (x ∷ xs) q → ⊥
      first zero h t = omega (arith, t.0)
      first (suc zero) h t =
          both_ways (prefers x y) e (subst (λ (z : T). prefers x z ≡ true) (here x) (t.2 (suc i) x (omega (arith, b.0.1))))
      first (suc (suc q)) h t =
          b.1 (suc q) (omega arith) (omega arith, omega (arith, t.1), λ k d l. rw sub-one (rw sub-one at (t.2 (suc k) d (omega arith))))

    grow : (x : T) (xs : List T) (r : Option T) → Chosen prefers xs r → Chosen prefers (x ∷ xs) (better prefers x r)
    grow x xs None c =
        let none : xs ≡ [] = nil_from_length xs c in
        front_best x x xs (λ k d h. absurd (omega arith)) (itself x)
    grow x xs (Some y) (p, b, is) = elim (cases_Bool (prefers x y)) [
      | inl e ↦
          subst (Chosen prefers (x ∷ xs)) (sym (cond-true (prefers x y) (Some x) (Some y) e))
          (front_best x y xs
          (λ k d h. subst (λ (z : T). prefers z (get_or xs k d) ≡ true) (element_getD xs p y d is) (b.0.2 k d h)) e)
      | inr e ↦ subst (Chosen prefers (x ∷ xs)) (sym (cond-false (prefers x y) (Some x) (Some y) e)) (rest_best x y xs p b is e)
    ]

    pub chosen_best : (xs : List T) → Chosen prefers xs (best_of prefers xs)
    chosen_best [] = refl
    chosen_best (x ∷ xs) = grow x xs (best_of prefers xs) (chosen_best xs)

    -- the best is preferred at least as much as each
    pub best_tops : (xs : List T) (b : T) → best_of prefers xs ≡ Some b → All (λ x. prefers b x ≡ true) xs
    best_tops xs b e =
        let (p, best, is) = subst (Chosen prefers xs) e (chosen_best xs) in
        All-from_get_or (λ x. prefers b x ≡ true) xs b
        (λ k h. subst (λ (z : T). prefers z (get_or xs k b) ≡ true) (element_getD xs p b b is) (best.0.2 k b h))

  -- the best of a list is one of it
  pub best_in : (P : T → Type 0) (xs : List T) (b : T) → All P xs → best_of prefers xs ≡ Some b → P b
  best_in P [] b h e = absurd (none-some b e)
  best_in P (x ∷ xs) b h e = one (best_of prefers xs) (λ y i. best_in P xs y h.1 i) e
    where
      one : (r : Option T) → ((y : T) → r ≡ Some y → P y) → better prefers x r ≡ Some b → P b
      one None later j = subst P (same_Some x b j) h.0
      one (Some y) later j =
          cond_both (prefers x y) (Some x) (Some y) (λ (o : Option T). o ≡ Some b → P b)
          (λ _ k. subst P (same_Some x b k) h.0) (λ _ k. later b k) j
