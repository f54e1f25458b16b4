-- A store as text.
use Rattle.std.specs.Prelude.{ℕ, ◌+◌, ◌/◌, ◌%◌, List, is_some, Option, count_by, flat_map}
use Rattle.printed.specs.Lines.{line}
use Rattle.listing.specs.declared.lines.CellLine.{CellLine}
use Rattle.std.specs.List.{range_with_len}
use Rattle.std.specs.Option.{option_map}
use Rattle.store.specs.Cells.{Cells, held}

-- the line of cell k, counted from 0 by process and then by cell
abbrev pub line_of : Cells → ℕ → List ℕ
line_of cs k = line (held cs (k / 4 + 1) (k % 4 + 1))

-- the first k lines: by process, and then by cell
unfoldable pub store_lines : Cells → ℕ → List ℕ
store_lines cs k = flat_map (line_of cs) (range_with_len 0 k)

-- the line of cell k, counted from 0, if it holds something
abbrev pub told_cell : Cells → ℕ → Option CellLine
told_cell cs k =
    option_map (λ v. record { process = k / 4 + 1; cell = k % 4 + 1; content = v }) (held cs (k / 4 + 1) (k % 4 + 1))

-- how many of the first k cells hold something
unfoldable pub told_count : Cells → ℕ → ℕ
told_count cs k = count_by (λ j. is_some (told_cell cs j)) (range_with_len 0 k)
