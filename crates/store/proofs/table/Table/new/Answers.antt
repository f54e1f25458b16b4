use Rattle.store.proofs.Rows.{in_row_absent, in_row_none_sound, none_at}
use Rattle.store.proofs.table.Table.new.Goals as goal

pub invariant_of-result : goal.invariant_of-result
invariant_of-result c = record { sound = in_row_none_sound _ none_at }

pub returns : goal.returns
returns c = in_row_absent _ none_at
