use Rattle.std.proofs.Common.{sym}
use Rattle.tray.proofs.Places.{without_none}
use Rattle.tray.proofs.Tray.take_out.Goals as goal

pub returns-in_err-x-clause-list : goal.returns-in_err-x-clause-list
returns-in_err-x-clause-list g c = sym (without_none _ _ c.in_err-x.ensures)
