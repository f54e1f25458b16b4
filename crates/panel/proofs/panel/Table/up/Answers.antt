use Rattle.std.proofs.Common.{sym}
use Rattle.process.specs.declared.memory.Status.TheVariants.{Up}
use Rattle.panel.proofs.Kept.{ranged_at}
use Rattle.panel.proofs.panel.Table.up.Goals as goal

pub returns-in-Up-clause-fits : goal.returns-in-Up-clause-fits
returns-in-Up-clause-fits c = let t = c.args.self.now in ranged_at t.records c.args.p.number (Up c.in-Up.memory) c.args.p.low t.ranged (sym (rw c.place.ensures.value at c.in-Up.is))
