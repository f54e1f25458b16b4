-- The text of a store, inspected, read and written.
use Rattle.std.proofs.Common.{◌≡◌, ℕ, ◌+◌, ◌*◌, ◌/◌, ◌%◌, ◌<◌, true, cond, List, [], length, get_or, drop, Some, None, Ok, Err, Option, Result, sym, refl, ap, ◌∙◌, subst, inl, inr, arith}
use Rattle.std.specs.Simd.{first_chunks}
use Rattle.std.proofs.lemmas.List.{length-take-le, length-drop, get_or-take, get_or-drop}
use Rattle.std.proofs.lemmas.Grind.{same_number_lists}
use Rattle.std.specs.Result.{MatchResult, IsOk}
use Rattle.std.proofs.lemmas.Bool.{cases_eq, cond-true}
use Rattle.store.specs.declared.content.Content.{Content}
use Rattle.store.specs.declared.content.Refusal.{Refusal}
use Rattle.store.specs.declared.content.Refusal.TheVariants.{NoSuchCell}
use Rattle.store.specs.Cells.{Sound, sound, absent, written, read_answer}
use Rattle.store.specs.Ranges.{is_cell, index, fits}
use Rattle.store.proofs.Rows.{index_below, index_known, in_row_written, in_row_sound, in_row_absent, in_row_none_sound}
use Rattle.printed.specs.declared.fault.LineFault.{LineFault}
use Rattle.printed.specs.declared.fault.LineFault.TheVariants.{Field, Blank, LineFeed, Number, Stamp}
use Rattle.printed.specs.Fields.{WrongAt}
use Rattle.printed.specs.Lines.{line, value, Roomy, LineShape}
use Rattle.printed.specs.Texts.{slot, with_line, text_cells, Printed, Shows}
use Rattle.printed.specs.Faults.{ShapeWrong, fault_column}
use Rattle.printed.proofs.Slots.{slot_read, length_with_line, slot_same, slot_other, value_line}

-- what is in range has room in its field
roomy_from_sound : (cell : ℕ) (v : Option Content) → sound cell v ≡ true → Roomy v
roomy_from_sound cell None h = tt
roomy_from_sound cell (Some c) h = grind arith

sound_at : (xs : List ℕ) (p c : ℕ) → is_cell p c ≡ true → Sound (text_cells xs) → sound c (value (slot (index p c) xs)) ≡ true
sound_at xs p c cell s = subst (λ (v : Option Content). sound c v ≡ true) (cond-true (is_cell p c) (value (slot (index p c) xs)) None cell) (s p c)

-- a line of a store's text is overwritten by what is printed for a content of its cell
module _ (xs ys new : List ℕ) (p c k : ℕ) (v : Content) (was : Printed xs) (known : Ok k ≡ cond (is_cell p c) (Ok (index p c)) (Err NoSuchCell))
    (fit : fits c v ≡ true) (shows : new ≡ line (Some v)) (put : ys ≡ with_line xs k new) where
  is_at : k ≡ index p c
  is_at = (index_known p c k known).1

  cell : is_cell p c ≡ true
  cell = (index_known p c k known).0

  within : k < 36
  within = omega (arith, is_at, index_below p c cell)

  full : length new ≡ 16
  full = ap length shows

  slot_here : slot k ys ≡ line (Some v)
  slot_here = ap (slot k) put ∙ (slot_same xs k new was.0 within full ∙ shows)

  slot_there : (j : ℕ) → j < 36 → (j ≡ k → ⊥) → slot j ys ≡ slot j xs
  slot_there j h ne = ap (slot j) put ∙ slot_other xs k new was.0 within full j h ne

  value_here : value (slot k ys) ≡ Some v
  value_here = ap value slot_here ∙ value_line (Some v) (roomy_from_sound c (Some v) fit)

  here : value (slot (index p c) ys) ≡ Some v
  here = rw (← is_at) value_here

  there : (j : ℕ) → j < 36 → (j ≡ index p c → ⊥) → value (slot j ys) ≡ value (slot j xs)
  there j h ne = ap value (slot_there j h (λ e. ne (e ∙ is_at)))

  pub cells_written : text_cells ys ≡ written (text_cells xs) p c v
  cells_written = in_row_written _ _ p c v cell here there fit

  pub printed_written : Printed ys
  printed_written = (
    ap length put ∙ length_with_line xs k new was.0 within full,
    λ j h. elim (cases_eq j k) [
      | inl e ↦ rw (e, value_here) (sym slot_here)
      | inr ne ↦ rw (slot_there j h ne) (was.1 j h)
    ],
    in_row_sound _ _ p c v cell here there fit was.2,
  )

-- a line of a store's text is read
shape_at : (xs : List ℕ) (l : ℕ) (f : LineFault) → ShapeWrong xs l f → WrongAt LineShape xs (fault_column f)
shape_at xs l (Field f) w = w.1
shape_at xs l (Blank m) w = w.1
shape_at xs l (LineFeed m) w = w.1
shape_at xs l (Number m) w = absurd w
shape_at xs l (Stamp m) w = absurd w

module _ (xs : List ℕ) (lines : List (List ℕ)) (p c k : ℕ) (was : Printed xs) (known : Ok k ≡ cond (is_cell p c) (Ok (index p c)) (Err NoSuchCell))
    (cut : lines ≡ first_chunks 16 (length xs / 16) xs) where
  in_row : is_cell p c ≡ true
  in_row = (index_known p c k known).0

  at : get_or lines k [] ≡ slot (index p c) xs
  at =
      let is : k ≡ index p c = (index_known p c k known).1 in
      slot_read xs lines k cut was.0 (omega (arith, index_below p c in_row)) ∙ ap (λ (m : ℕ). slot m xs) is

  right_shape : LineShape (get_or lines k [])
  right_shape = (
    value (slot (index p c) xs),
    roomy_from_sound c _ (sound_at xs p c in_row was.2),
    at ∙ sym (was.1 (index p c) (index_below p c in_row)),
  )

  pub is_read : (l : ℕ) (r : Result (Option Content) LineFault)
      → MatchResult r (λ v. Roomy v × (get_or lines k [] ≡ line v)) (ShapeWrong (get_or lines k []) l) → IsOk r
  is_read l (Ok v) h = refl
  is_read l (Err f) h = absurd ((shape_at (get_or lines k []) l f h).after (get_or lines k []) right_shape refl)

  pub read_right : (v : Option Content) → Roomy v × (get_or lines k [] ≡ line v) → ◌≡◌ {A = Result (Option Content) Refusal} (Ok v) (read_answer (text_cells xs) p c)
  read_right v r = ap Ok (sym (cond-true (is_cell p c) _ _ in_row ∙ (ap value (sym at ∙ r.1) ∙ value_line v r.0))) ∙ sym (cond-true _ _ _ in_row)

-- a text is inspected, line by line
pub shows_from_line : (cell : ℕ) (xs : List ℕ) (v : Option Content) → Roomy v → xs ≡ line v → sound cell v ≡ true → Shows cell xs
shows_from_line cell xs v r e f = rw (e, value_line v r) (refl, f)

-- the first k lines are right
abbrev pub Right : List ℕ → ℕ → Type 0
Right xs k = (j : ℕ) → j < k → Shows (j % 4 + 1) (slot j xs)

-- a text of blank lines
module _ (xs : List ℕ) (long : length xs ≡ 576) (made : (i : ℕ) → i < 576 → get_or xs i 0 ≡ get_or (line None) (i % 16) 0) where
  blank : (k : ℕ) → k < 36 → slot k xs ≡ line None
  blank k h =
      same_number_lists (slot k xs) (line None) (length-take-le 16 (drop (16 * k) xs) (simp length-drop (omega arith)))
      (λ j l.
      let b : j < 16 = omega (arith, length-take-le 16 (drop (16 * k) xs) (simp length-drop (omega arith)), l) in
      let e : (16 * k + j) % 16 ≡ j = omega arith in
      get_or-take 16 (drop (16 * k) xs) j 0 b ∙ (get_or-drop (16 * k) xs j 0 ∙ (made (16 * k + j) (omega arith) ∙ ap (λ (n : ℕ). get_or (line None) n 0) e)))

  none : (j : ℕ) → j < 36 → value (slot j xs) ≡ None
  none j h = ap value (blank j h) ∙ value_line None tt

  pub blank_printed : Printed xs
  blank_printed = (long, λ j h. ap line (none j h) ∙ sym (blank j h), in_row_none_sound _ none)

  pub blank_absent : text_cells xs ≡ absent
  blank_absent = in_row_absent _ none
