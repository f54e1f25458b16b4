-- A line of the text, read and overwritten.
use Rattle.std.proofs.Common.{◌≡◌, ◌≢◌, ℕ, zero, suc, ◌+◌, ◌-◌, ◌*◌, ◌/◌, ◌^◌, ◌<◌, cond, eqb, List, [], ◌++◌, length, get_or, take, drop, Some, None, Option, refl, ap, ◌∙◌, arith}
use Rattle.std.specs.Simd.{first_chunks}
use Rattle.std.proofs.lemmas.List.{length-take, length-take-le, length-drop, take_at, drop_at, drop-drop, get_or-take, get_or-drop, get_or-append_right}
use Rattle.std.proofs.lemmas.List.Sums.{fold_push}
use Rattle.std.proofs.lemmas.Grind.{common_steps, same_number_lists}
use Rattle.std.proofs.Math.ListN.{get_or-append}
use Rattle.store.specs.declared.content.Content.{Content}
use Rattle.printed.specs.Fields.{figure, leading, justified}
use Rattle.printed.specs.Lines.{line, amount, value, Roomy}
use Rattle.printed.specs.Texts.{slot, with_line}
use Rattle.printed.proofs.Columns.{tenth_below}

-- a line of the text as lines
slot_chunk : (n k : ℕ) (xs : List ℕ) → k < n → get_or (first_chunks 16 n xs) k [] ≡ slot k xs
slot_chunk zero k xs h = absurd (omega arith)
slot_chunk (suc n) zero xs h = refl
slot_chunk (suc n) (suc k) xs h =
    let e : 16 + 16 * k ≡ 16 * suc k = omega arith in
    slot_chunk n k (drop 16 xs) (omega arith) ∙ ap (take 16) (rw (← e) (drop-drop (16 * k) 16 xs))

pub slot_read : (xs : List ℕ) (lines : List (List ℕ)) (k : ℕ) → lines ≡ first_chunks 16 (length xs / 16) xs → length xs ≡ 576 → k < 36 → get_or lines k [] ≡ slot k xs
slot_read xs lines k e l h = rw (e, l) (slot_chunk 36 k xs h)

-- one line of the text is overwritten
module _ (xs : List ℕ) (k : ℕ) (new : List ℕ) (long : length xs ≡ 576) (within : k < 36) (full : length new ≡ 16) where
  pub length_with_line : length (with_line xs k new) ≡ 576
  length_with_line = grind (arith, common_steps)

  pub slot_same : slot k (with_line xs k new) ≡ new
  slot_same =
      rw (drop_at (take (16 * k) xs) (new ++ drop (16 * k + 16) xs) (16 * k) (length-take-le (16 * k) xs (omega arith)))
      (take_at new (drop (16 * k + 16) xs) 16 full)

  byte_other : (n : ℕ) → n < 576 → n / 16 ≢ k → get_or (with_line xs k new) n 0 ≡ get_or xs n 0
  byte_other n h ne = grind (arith, common_steps, get_or-append, get_or-append_right, get_or-take, get_or-drop, length-take-le)

  pub slot_other : (j : ℕ) → j < 36 → (j ≡ k → ⊥) → slot j (with_line xs k new) ≡ slot j xs
  slot_other j h ne =
      same_number_lists (slot j (with_line xs k new)) (slot j xs) (let l = length_with_line in simp (length-take, length-drop) (omega arith))
      (λ i m.
      let b : i < 16 = omega (arith, length-take 16 (drop (16 * j) (with_line xs k new)), m) in
      let q : (16 * j + i) / 16 ≡ j = omega arith in
      rw (get_or-take 16 (drop (16 * j) (with_line xs k new)) i 0 b, get_or-take 16 (drop (16 * j) xs) i 0 b, get_or-drop (16 * j) (with_line xs k new), get_or-drop (16 * j) xs)
      (byte_other (16 * j + i) (omega arith) (omega arith)))

-- what is read of what is printed
amount_figure : (m : ℕ) → cond (eqb (figure m) 32) (m / 10) (m / 10 * 10 + (figure m - 48)) ≡ m
amount_figure m = grind arith

pub amount_leading : (w m : ℕ) → m < 10 ^ w → amount (leading w m) ≡ m
amount_leading zero m h = omega arith
amount_leading (suc w) m h = simp (fold_push, amount_leading w (m / 10) (tenth_below w m h)) (amount_figure m)

pub amount_justified : (w n : ℕ) → n < 10 ^ suc w → amount (justified (suc w) n) ≡ n
amount_justified w n h = simp (fold_push, amount_leading w (n / 10) (tenth_below w n h)) (grind arith)

pub value_line : (v : Option Content) → Roomy v → value (line v) ≡ v
value_line None r = refl
value_line (Some c) r = simp (amount_justified 7 c.number r.0, amount_justified 5 c.stamp r.1) (grind arith)
