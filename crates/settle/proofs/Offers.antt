-- One house more.
use Rattle.std.proofs.Common.{◌≡◌, ℕ, zero, suc, ◌+◌, ◌<◌, ◌≤◌, Bool, false, cond, ltb, List, [], ◌∷◌, ◌++◌, length, get_or, take, Some, None, Option, sym, refl, ap, ◌∙◌, add-one, arith}
use Rattle.std.proofs.lemmas.List.{get_or-take, length-append, length-take, append-nil, take_all}
use Rattle.std.proofs.Math.Seq.{take-suc}
use Rattle.std.specs.Option.{option_to_list}
use Rattle.tray.proofs.Room.{put_appends}
use Rattle.tray.specs.declared.kinds.Estimate.{Estimate}
use Rattle.store.specs.Cells.{Cells}
use Rattle.settle.specs.Houses.{estimate, offers, proposes, proposing}

offers_few : (cs : Cells) (n : ℕ) → length (offers cs n) ≤ n
offers_few cs zero = omega arith
offers_few cs (suc n) = rw length-append (omega (arith, offers_few cs n, one (estimate cs (suc n))))
  where
    one : (o : Option Estimate) → length (option_to_list o) ≤ 1
    one None = omega arith
    one (Some e) = omega arith

module _ (cs : Cells) where
  -- house p comes after i others, and there are j with it
  module _ (i p j : ℕ) (here : p ≡ i + 1) (with : j ≡ i + 1) where
    offers_more : offers cs j ≡ offers cs i ++ option_to_list (estimate cs p)
    offers_more = rw (with, here, add-one) refl

    pub offers_none : (xs : List Estimate) → xs ≡ offers cs i → None ≡ estimate cs p → xs ≡ offers cs j
    offers_none xs e o = e ∙ sym (offers_more ∙ (ap (λ (x : Option Estimate). offers cs i ++ option_to_list x) (sym o) ∙ append-nil (offers cs i)))

    -- a put that finds room
    pub offers_put : (xs ys : List Estimate) (x : Estimate) (ok : Bool) (room : ℕ) → xs ≡ offers cs i → Some x ≡ estimate cs p
        → p ≤ room → ok ≡ ltb (length xs) room → ys ≡ cond ok (xs ++ x ∷ []) xs → ys ≡ offers cs j
    offers_put xs ys x ok room e o h test put =
        let few : length xs ≤ i = omega (arith, ap length e, offers_few cs i) in
        put_appends xs ys x ok room (omega arith) test put
        ∙ (ap (λ (l : List Estimate). l ++ x ∷ []) e ∙ (ap (λ (y : Option Estimate). offers cs i ++ option_to_list y) o ∙ sym offers_more))

  -- each house asked for itself
  pub proposing_each : (n : ℕ) (xs : List Bool) → length xs ≡ n → ((i : ℕ) → i < n → get_or xs i false ≡ proposes cs (i + 1)) → xs ≡ proposing cs n
  proposing_each zero [] e each = refl
  proposing_each zero (x ∷ xs) e each = absurd (omega (arith, e))
  proposing_each (suc n) xs e each =
      let before = proposing_each n (take n xs) (omega (arith, length-take n xs)) (λ i h. get_or-take n xs i false h ∙ each i (omega arith)) in
      let last : get_or xs n false ≡ proposes cs (suc n) = rw add-one at (each n (omega arith)) in
      sym (take_all (suc n) xs (omega arith)) ∙ (take-suc xs n false (omega arith)
      ∙ (ap (λ (l : List Bool). l ++ get_or xs n false ∷ []) before ∙ ap (λ (b : Bool). proposing cs n ++ b ∷ []) last))
