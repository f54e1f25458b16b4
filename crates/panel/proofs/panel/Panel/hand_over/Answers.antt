use Rattle.std.proofs.Common.{ap, ◌∙◌, arith}
use Rattle.store.specs.Cells.{sound}
use Rattle.agreement.proofs.Ranges.{ends_of}
use Rattle.panel.proofs.Performs.{lawful_fits}
use Rattle.panel.proofs.panel.Panel.hand_over.Goals as goal

pub finish-requires : goal.finish-requires
finish-requires g c =
    let rule = c.args.self.now.rule in
    let n = g.R.QuorumRule.processes rule in
    let m = c.args.letter.message in
    let same = c.addressee-id.ensures in
    rw same
    (lawful_fits (c.deliver_turn-turn.ensures.lawful 9 (g.met.R.QuorumRule.sized rule).1 (ends_of n m c.requires.0).2) (omega arith)
    (c.requires.1, c.requires.0, ap (sound 4) c.cell-decision.ensures ∙ g.met.S.Store.sound c.args.self.now.store c.addressee-id.result.number 4))
