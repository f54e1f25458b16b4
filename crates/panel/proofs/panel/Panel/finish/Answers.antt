use Rattle.std.proofs.Common.{rules}
use Rattle.process.specs.Ranges.{act_fits}
use Rattle.panel.proofs.Performs.{every_take}
use Rattle.panel.proofs.panel.Panel.finish.Goals as goal

pub perform-requires : goal.perform-requires
perform-requires g c = every_take (act_fits 9 c.args.p.number) c.allow-k.result _ (search rules)
