use Rattle.std.proofs.Common.{refl}
use Rattle.panel.proofs.Kept.{ranged_at}
use Rattle.panel.proofs.panel.Table.get.Goals as goal

pub returns-clause-fits : goal.returns-clause-fits
returns-clause-fits c = let t = c.args.self.now in rw c.place.ensures.value (ranged_at t.records c.args.p.number _ c.args.p.low t.ranged refl)
