use Rattle.std.proofs.Common.{ap, ◌∙◌, arith}
use Rattle.store.specs.Cells.{sound}
use Rattle.panel.proofs.Performs.{lawful_fits}
use Rattle.panel.proofs.panel.Panel.recover.Goals as goal

pub finish-requires : goal.finish-requires
finish-requires g c =
    let law = g.met.S.Store.sound c.args.self.now.store c.in_ok-id.id.number in
    lawful_fits (c.recover_turn-turn.ensures.lawful 9 (g.met.R.QuorumRule.sized c.args.self.now.rule).1 c.in_ok-id.ensures.kept.1) (omega arith)
    (ap (sound 1) c.cell.ensures ∙ law 1, ap (sound 2) c.cell-2.ensures ∙ law 2, ap (sound 3) c.cell-3.ensures ∙ law 3)
