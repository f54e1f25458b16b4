-- The text of a store: line (p - 1) * 4 + c shows what cell c of process p holds.
use Rattle.std.specs.Prelude.{◌≡◌, ℕ, ◌+◌, ◌*◌, ◌<◌, true, List, ◌++◌, length, take, drop}
use Rattle.store.specs.Cells.{Cells, Sound, sound, in_row}
use Rattle.printed.specs.Lines.{line, value}

-- line k, counted from 0
abbrev pub slot : ℕ → List ℕ → List ℕ
slot k xs = take 16 (drop (16 * k) xs)

-- the text with line k overwritten
abbrev pub with_line : List ℕ → ℕ → List ℕ → List ℕ
with_line xs k new = take (16 * k) xs ++ (new ++ drop (16 * k + 16) xs)

-- what the cells hold
abbrev pub text_cells : List ℕ → Cells
text_cells xs = in_row (λ k. value (slot k xs))

-- every line is the one that is printed for what it shows
abbrev pub Shown : List ℕ → Type 0
Shown xs = (k : ℕ) → k < 36 → line (value (slot k xs)) ≡ slot k xs

-- 36 such lines, and what they show is in range
abbrev pub Printed : List ℕ → Type 0
Printed xs = (length xs ≡ 576) × Shown xs × Sound (text_cells xs)

-- a line is the one that is printed for what it shows, and that is in the cell's range
abbrev pub Shows : ℕ → List ℕ → Type 0
Shows cell xs = (line (value xs) ≡ xs) × (sound cell (value xs) ≡ true)
