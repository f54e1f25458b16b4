-- Failure detectors' lists: the turns of the loops over them, and the round that a look enters.
use Rattle.std.proofs.Common.{◌≡◌, ℕ, zero, suc, ◌+◌, ◌-◌, ◌%◌, ◌<◌, ◌≤◌, max, Bool, true, false, cond, ltb, List, [], ◌∷◌, ◌++◌, length, get_or, Some, None, Option, refl, ap, ◌∙◌, subst, inl, inr, mod-lt, arith}
use native.Mathlib.Nat.{add-mod-mod, mod-le}
use Rattle.std.specs.Option.{option_map}
use Rattle.std.proofs.lemmas.List.{append-nil, get_or_append_left, get_or_at, length-append}
use Rattle.std.proofs.ByRecursion.{All-append, All-get_or}
use Rattle.std.specs.List.{AllByRecursion}
use Rattle.tray.specs.Best.{Chosen, best_of}
use Rattle.tray.specs.Kinds.{prefers_round}
use Rattle.tray.specs.declared.kinds.Round.{Round}
use Rattle.tray.proofs.Room.{put_appends}
use Rattle.tray.proofs.Bests.{best_in, chosen_best, element_getD}
use Rattle.std.proofs.lemmas.Bool.{both_ways, cases_Bool, cases_lt, cond_both, cond-true}
use Rattle.std.proofs.lemmas.Bool.Decides.{nat_tests}
use Rattle.process.specs.declared.memory.Memory.{Memory}
use Rattle.process.specs.Rounds.{coordinator}
use Rattle.process.specs.Looks.{may_enter, Least, candidates, next_round}

-- the rounds of a window that pass a test
module _ (test : ℕ → Bool) (start : ℕ) where
  abbrev here : ℕ → List Round
  here k = cond (test (start + k)) (record { number = start + k } ∷ []) []

  candidates_next : (q : ℕ) → start ≤ q → candidates test start (q + 1 - start) ≡ candidates test start (q - start) ++ cond (test q) (record { number = q } ∷ []) []
  candidates_next q low =
      let next : q + 1 - start ≡ suc (q - start) = omega arith in
      let back : start + (q - start) ≡ q = omega arith in
      ap (candidates test start) next ∙ ap (λ (k : ℕ). candidates test start (q - start) ++ cond (test k) (record { number = k } ∷ []) []) back

  candidates_few : (k : ℕ) → length (candidates test start k) ≤ k
  candidates_few zero = omega arith
  candidates_few (suc k) = grind (arith, candidates_few k, length-append)

  -- one round more: either it is put, or the list stays
  pub candidates_skip : (q : ℕ) (xs : List Round) → start ≤ q → xs ≡ candidates test start (q - start) → test q ≡ false → xs ≡ candidates test start (q + 1 - start)
  candidates_skip q xs low so e = grind (arith, candidates_next q low, append-nil)

  pub candidates_put : (q : ℕ) (xs ys : List Round) (ok : Bool) (room : ℕ) → start ≤ q → xs ≡ candidates test start (q - start) → test q ≡ true → q < start + room
      → ok ≡ ltb (length xs) room → ys ≡ cond ok (xs ++ record { number = q } ∷ []) xs → ys ≡ candidates test start (q + 1 - start)
  candidates_put q xs ys ok room low so e h fits put =
      let few : length xs ≤ q - start = omega (arith, ap length so, candidates_few (q - start)) in
      let put_it = put_appends xs ys (record { number = q }) ok room (omega arith) fits put in
      grind (arith, candidates_next q low)

  passing : (k : ℕ) → AllByRecursion (λ q. test q.number ≡ true) (candidates test start k)
  passing zero = tt
  passing (suc k) =
      All-append (λ q. test q.number ≡ true) (candidates test start k) (here k) (passing k)
      (cond_both (test (start + k)) (record { number = start + k } ∷ []) [] (AllByRecursion (λ q. test q.number ≡ true)) (λ e. (e, tt)) (λ _. tt))

  -- each that passes is there
  abbrev There : ℕ → ℕ → Type 0
  There d k = (j : ℕ) × (j < length (candidates test start k)) × ((z : Round) → get_or (candidates test start k) j z ≡ record { number = start + d })

  there : (d k : ℕ) → d < k → test (start + d) ≡ true → There d k
  there d zero h e = absurd (omega arith)
  there d (suc k) h e = elim (cases_lt d k) [
    | inl l ↦
        let (j, in_it, is) = there d k l e in (
          j,
          rw length-append (omega arith),
          λ z. get_or_append_left (candidates test start k) (here k) z j in_it ∙ is z,
        )
    | inr l ↦
        let same : d ≡ k = omega arith in
        let now : test (start + k) ≡ true = subst (λ (i : ℕ). test (start + i) ≡ true) same e in
        let one : here k ≡ record { number = start + k } ∷ [] = cond-true (test (start + k)) (record { number = start + k } ∷ []) [] now in (
          length (candidates test start k),
          rw (length-append, one) (omega arith),
          λ z. rw (one, same) (get_or_at (candidates test start k) (record { number = start + k }) [] z (length (candidates test start k)) refl),
        )
  ]

round_total : (x y : Round) → prefers_round x y ≡ false → prefers_round y x ≡ true
round_total x y e = grind (arith, nat_tests)

round_transitive : (x y z : Round) → prefers_round x y ≡ true → prefers_round y z ≡ true → prefers_round x z ≡ true
round_transitive x y z e f = grind (arith, nat_tests)

module _ (n : ℕ) (list : List (Option ℕ)) (m : Memory) (some : 1 ≤ n) where
  abbrev start : ℕ
  start = max (m.round + 1) m.heard

  abbrev test : ℕ → Bool
  test = may_enter n list m

  abbrev window : List Round
  window = candidates test start n

  -- among n rounds in a row each process is the coordinator once: a round that may be entered has one in the window that is not greater
  into_window : (q : ℕ) → test q ≡ true → (d : ℕ) × (d < n) × (start + d ≤ q) × (test (start + d) ≡ true)
  into_window q e =
      let d = (q - start) % n in
      let le : d ≤ q - start = mod-le (q - start) n in
      let back : start + (q - start) ≡ q = grind (arith, nat_tests) in
      let same : coordinator n (start + d) ≡ coordinator n q = ap (λ (r : ℕ). r + 1) (add-mod-mod start (q - start) n ∙ ap (λ (r : ℕ). r % n) back) in
      (d, mod-lt (q - start) some, omega arith, grind (arith, nat_tests))

  least_from : (r : Option Round) → Chosen prefers_round window r → Least test (option_map (λ q. q.number) r)
  least_from None none = λ q. elim (cases_Bool (test q)) [
    | inl e ↦
        let (d, l, le, t) = into_window q e in
        let (j, in_it, is) = there test start d n l t in absurd (omega arith)
    | inr e ↦ e
  ]
  least_from (Some x) (p, best, is) =
      let at_p : get_or window (p - 1) x ≡ x = element_getD window p x x is in (
        subst (λ (q : Round). test q.number ≡ true) at_p (All-get_or (λ q. test q.number ≡ true) window (p - 1) x (omega (arith, best.0.0, best.0.1)) (passing test start n)),
        λ q e.
            let (d, l, le, t) = into_window q e in
            let (j, in_it, here) = there test start d n l t in
            let above : prefers_round x (record { number = start + d }) ≡ true =
            subst (λ (y : Round). prefers_round x y ≡ true) (here x) (subst (λ (y : Round). prefers_round y (get_or window j x) ≡ true) at_p (best.0.2 j x in_it)) in
            grind (arith, nat_tests),
      )

  pub least_next : Least test (next_round n list m)
  least_next = least_from (best_of prefers_round window) (chosen_best prefers_round round_total round_transitive window)

  -- where the window lies beyond the last round
  pub none_fits : 999999 < start → (q : ℕ) → test q ≡ false
  none_fits h q = grind (arith, nat_tests)

  pub none_next : 999999 < start → None ≡ next_round n list m
  none_next h = none_of (next_round n list m) least_next
    where
      none_of : (r : Option ℕ) → Least test r → None ≡ r
      none_of None l = refl
      none_of (Some q) l = absurd (both_ways (test q) (none_fits h q) l.0)

-- a next round may be entered
pub next_fits : (n : ℕ) (list : List (Option ℕ)) (m : Memory) (r : ℕ) → next_round n list m ≡ Some r → may_enter n list m r ≡ true
next_fits n list m r e = from (best_of prefers_round (candidates (may_enter n list m) (max (m.round + 1) m.heard) n)) refl e
  where
    from : (o : Option Round) → best_of prefers_round (candidates (may_enter n list m) (max (m.round + 1) m.heard) n) ≡ o → option_map (λ q. q.number) o ≡ Some r → may_enter n list m r ≡ true
    from None i j = absurd (grind arith)
    from (Some q) i j =
        let z : q.number ≡ r = cc in
        subst (λ (k : ℕ). may_enter n list m k ≡ true) z
        (best_in prefers_round (λ x. may_enter n list m x.number ≡ true) (candidates (may_enter n list m) (max (m.round + 1) m.heard) n) q
        (passing (may_enter n list m) (max (m.round + 1) m.heard) n) i)
