use Rattle.std.proofs.Common.{sym, arith}
use Rattle.panel.proofs.Performs.{lawful_fits}
use Rattle.panel.proofs.panel.Panel.propose.Goals as goal

pub finish-requires : goal.finish-requires
finish-requires g c =
    lawful_fits (c.propose_turn-turn.ensures.lawful 9 (g.met.R.QuorumRule.sized c.args.self.now.rule).1 c.in_ok-id.ensures.kept.1) (omega arith)
    (c.in_ok-memory.ensures.fits, sym c.if-not-is_reading.ensures)
