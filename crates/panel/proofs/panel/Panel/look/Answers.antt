use Rattle.std.proofs.Common.{sym, arith}
use Rattle.std.proofs.lemmas.Bool.{and_parts}
use Rattle.panel.proofs.Kept.{active_from}
use Rattle.panel.proofs.Performs.{lawful_fits}
use Rattle.panel.proofs.panel.Panel.look.Goals as goal

pub finish-requires : goal.finish-requires
finish-requires g c =
    lawful_fits (c.in_ok-turn-in_default-2.ensures.lawful 9 (g.met.R.QuorumRule.sized c.args.self.now.rule).1 c.in_ok-id.ensures.kept.1) (omega arith)
    (c.in_ok-memory.ensures.fits, active_from c.in_ok-memory.memory.now.phase c.in_default.not-Idle c.in_default.not-Done, (and_parts _ _ (sym c.if-not-is_list.ensures)).1)
