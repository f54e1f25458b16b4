-- What a table means.
use Rattle.std.specs.Prelude.{None, slice_index_or}
use Rattle.store.specs.declared.table.Table.{Table}
use Rattle.store.specs.Cells.{Cells, in_row}

-- what stands in its row
abbrev pub table_cells : Table → Cells
table_cells x = in_row (λ k. slice_index_or x.row k None)
