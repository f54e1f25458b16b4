-- What stands at a place, and what is left when it is taken out.
use Rattle.std.proofs.Common.{◌≡◌, ℕ, zero, suc, ◌+◌, ◌-◌, ◌≤◌, List, [], ◌∷◌, length, take, drop, Some, None, refl, sym, ap, ◌∙◌, sub-one, arith}
use Rattle.std.specs.List.{copy_within}
use Rattle.std.proofs.lemmas.List.{take-take, drop-take, length-drop, length-take}
use Rattle.std.proofs.lemmas.List.Edits.{take-paste}
use Rattle.std.proofs.lemmas.Option.{slice_get_within, none-some}
use Rattle.tray.specs.Items.{element, without}

-- a place at which something stands among the first n
pub element_within : {T : Type 0} (xs : List T) (n p : ℕ) (x : T) → Some x ≡ element (take n xs) p → (1 ≤ p) × (p ≤ n)
element_within xs n zero x e = absurd (none-some x (sym e))
element_within xs n (suc i) x e = (omega arith, omega (arith, slice_get_within (take n xs) i x (sym e), length-take n xs))

-- a place that the list lacks
pub without_none : {T : Type 0} (xs : List T) (p : ℕ) → None ≡ element xs p → without xs p ≡ xs
without_none xs zero e = refl
without_none [] (suc zero) e = refl
without_none [] (suc (suc i)) e = refl
without_none (x ∷ xs) (suc zero) e = absurd (none-some x e)
without_none (x ∷ xs) (suc (suc i)) e = ap (λ (l : List _). x ∷ l) (without_none xs (suc i) e)

-- the later elements moved down by one
pub moved_down : {T : Type 0} (s : List T) (n p : ℕ) → 1 ≤ p → p ≤ n → n ≤ length s → take (n - 1) (copy_within s p n (p - 1)) ≡ without (take n s) p
moved_down s n zero low high fits = absurd (omega arith)
moved_down s n (suc i) low high fits =
    let m : i + (n - suc i) ≡ n - 1 = omega arith in
    let k : suc i + (n - suc i) ≡ n = omega arith in
    let b : i ≤ n = omega arith in
    let rest : drop (suc i) (take n s) ≡ take (n - suc i) (drop (suc i) s) =
    ap (λ j. drop (suc i) (take j s)) (sym k) ∙ drop-take (suc i) (n - suc i) s in
    rw (← m, sub-one, rest, take-take) (take-paste s i (drop (suc i) s) (n - suc i) (omega arith) (simp length-drop (omega arith)))

-- the same, wherever the copied part begins and goes to
pub moved_by : {T : Type 0} (s u : List T) (n p a d : ℕ) → u ≡ copy_within s a n d → 1 ≤ p → p ≤ n → n ≤ length s → a ≡ p → d ≡ p - 1 → take (n - 1) u ≡ without (take n s) p
moved_by s u n p a d made low high fits start to = rw (made, start, to) (moved_down s n p low high fits)
