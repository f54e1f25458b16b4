-- The numbers of the refusals.
use Rattle.std.specs.Prelude.{ℕ}
use Rattle.store.specs.declared.content.Refusal.{Refusal}
use Rattle.store.specs.declared.content.Refusal.TheVariants.{NoSuchCell, OutOfRange}

-- no such process or cell: 13; a content out of range: 14
abbrev pub number : Refusal → ℕ
number NoSuchCell = 13
number OutOfRange = 14
