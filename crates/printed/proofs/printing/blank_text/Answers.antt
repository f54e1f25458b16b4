use Rattle.std.proofs.Common.{◌≡◌, ℕ, zero, suc, ◌-◌, ◌*◌, ◌%◌, ◌<◌, List, length, get_or, replicate, None, refl, ap, ◌∙◌, inl, inr, arith}
use Rattle.std.specs.List.{flat_map}
use Rattle.std.proofs.lemmas.Bool.{cases_lt}
use Rattle.std.proofs.lemmas.List.{get_or-append_right}
use Rattle.std.proofs.Math.ListN.{get_or-append}
use Rattle.printed.specs.Lines.{line}
use Rattle.printed.proofs.Kept.{blank_printed, blank_absent}
use Rattle.printed.proofs.printing.blank_text.Goals as goal

-- a byte of n equal lines
flat : (b : List ℕ) → length b ≡ 16 → (n i : ℕ) → i < 16 * n → get_or (flat_map (λ x. x) (replicate n b)) i 0 ≡ get_or b (i % 16) 0
flat b l zero i h = absurd (omega arith)
flat b l (suc n) i h = elim (cases_lt i 16) [
  | inl s ↦
      let e : i % 16 ≡ i = omega arith in
      rw e (get_or-append b (flat_map (λ x. x) (replicate n b)) 0 i (omega (arith, l)))
  | inr s ↦
      let e : i % 16 ≡ (i - 16) % 16 = omega arith in
      rw e (get_or-append_right b (flat_map (λ x. x) (replicate n b)) 16 i 0 l s ∙ flat b l n (i - 16) (omega arith))
]

pub returns : goal.returns
returns c =
    let text = c.copy_from_slice.new.self in
    let e : text ≡ flat_map (λ x. x) (replicate 36 (line None)) = c.copy_from_slice.ensures.after ∙ c.as_flattened.ensures.value in
    let made : (i : ℕ) → i < 576 → get_or text i 0 ≡ get_or (line None) (i % 16) 0 =
    λ i h. ap (λ (xs : List ℕ). get_or xs i 0) e ∙ flat (line None) refl 36 i (omega arith) in
    record {
      printed = blank_printed text c.copy_from_slice.ensures.len made;
      absent = blank_absent text c.copy_from_slice.ensures.len made;
    }
