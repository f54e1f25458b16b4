use Rattle.std.proofs.Common.{rules, ◌≡◌, sym, ap, ◌∙◌}
use Rattle.process.specs.Messages.{well_formed}
use Rattle.process.specs.Rounds.{recover}
use Rattle.quorum.specs.Rules.{majority}
use Rattle.settle.proofs.Leads.{bare_from, led_from}
use Rattle.settle.proofs.leader.lead_round.Goals as goal

pub returns : goal.returns
returns c =
    let n = c.in_ok-rule.rule.n in
    let made : n ≡ 3 = search rules in
    led_from n c.in_ok-p.p.number c.args.own c.args.other c.in_ok-estimate.estimate.message c.in_ok-ack.ack.message _ _ _ _
    made c.in_ok-p.ensures.kept (c.in_ok-estimate.ensures.kept ∙ c.to_coordinator.ensures) (c.in_ok-ack.ensures.kept ∙ c.to_coordinator-2.ensures)
    (c.recover_turn-idle.ensures.value ∙ ap (recover n c.in_ok-p.p.number (majority n)) (bare_from c.default.result c.default.ensures)) c.propose_turn-proposed.ensures.value c.deliver_turn-chosen.ensures.value c.deliver_turn-decided.ensures.value
    (ap (well_formed n) c.in_ok-estimate.ensures.kept ∙ sym c.in_ok-estimate.ensures.test)
