-- What a store means, and what a read and a write do to it.
use Rattle.std.specs.Prelude.{◌≡◌, ℕ, Bool, true, cond, ◌&&◌, Some, None, Ok, Err, Option, Result, ◌==◌}
use Rattle.store.specs.declared.content.Content.{Content}
use Rattle.store.specs.declared.content.Refusal.{Refusal}
use Rattle.store.specs.declared.content.Refusal.TheVariants.{NoSuchCell, OutOfRange}
use Rattle.store.specs.Ranges.{is_cell, index, fits}

-- for each process and each cell, absent or a content
abbrev pub Cells : Type 0
Cells = ℕ → ℕ → Option Content

-- no cell has a content
abbrev pub absent : Cells
absent p c = None

-- a cell's content, if it has one, is in range
abbrev pub sound : ℕ → Option Content → Bool
sound c None = true
sound c (Some v) = fits c v

-- every cell is
abbrev pub Sound : Cells → Type 0
Sound cs = (p c : ℕ) → sound c (cs p c) ≡ true

-- the cells after one of them was made to hold a content: every other is as it was
abbrev pub put : Cells → ℕ → ℕ → Content → Cells
put cs p c v q d = cond (d == c && q == p) (Some v) (cs q d)

-- what a read answers
abbrev pub read_answer : Cells → ℕ → ℕ → Result (Option Content) Refusal
read_answer cs p c = cond (is_cell p c) (Ok (cs p c)) (Err NoSuchCell)

-- what a cell holds, none where there is no such cell
abbrev pub held : Cells → ℕ → ℕ → Option Content
held cs p c = cond (is_cell p c) (cs p c) None

-- what a write answers
abbrev pub write_answer : ℕ → ℕ → Content → Result (Unit {0}) Refusal
write_answer p c v = cond (is_cell p c) (cond (fits c v) (Ok tt) (Err OutOfRange)) (Err NoSuchCell)

-- the cells after a write
abbrev pub written : Cells → ℕ → ℕ → Content → Cells
written cs p c v = cond (is_cell p c && fits c v) (put cs p c v) cs

-- the cells of a store that keeps them in one row
abbrev pub in_row : (ℕ → Option Content) → Cells
in_row row p c = cond (is_cell p c) (row (index p c)) None
