-- What a printed store means.
use Rattle.std.specs.Prelude.{ℕ, List}
use Rattle.store.specs.Cells.{Cells}
use Rattle.printed.specs.declared.printed_store.PrintedStore.{PrintedStore}
use Rattle.printed.specs.Texts.{text_cells}

-- the text that it was lent
abbrev pub store_text : PrintedStore → List ℕ
store_text s = s.bytes.now

-- what the text shows
abbrev pub store_cells : PrintedStore → Cells
store_cells s = text_cells (store_text s)
