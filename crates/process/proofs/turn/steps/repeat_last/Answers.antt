use Rattle.std.proofs.Common.{sym, ap, ◌∙◌, arith, take_all, rules}
use Rattle.std.proofs.lemmas.List.{append-nil}
use Rattle.std.specs.List.{flat_map}
use Rattle.process.specs.Meetings.{resend}
use Rattle.process.specs.Turns.{planned}
use Rattle.process.proofs.Slots.{resends_more}
use Rattle.process.proofs.turn.steps.repeat_last.Goals as goal
use Rattle.process.proofs.turn.steps.repeat_last.Goals.{in-Some, in_default}

pub loop-slot-preserved : goal.loop-slot-preserved
loop-slot-preserved c =
    let more = resends_more c.args.last.now c.loop-slot.slot-index (planned c.loop-slot.plan) (planned c.match-slot.plan) in
    elim c.match-slot.branch [
      | in-Some w ↦ more _ (omega arith) w.in-Some.is c.loop-slot.invariant.0 c.loop-slot.invariant.1 (ap planned w.plan-is ∙ w.push.ensures.value)
      | in_default w ↦ more _ (omega arith) w.in_default.is c.loop-slot.invariant.0 c.loop-slot.invariant.1 (ap planned w.plan-is ∙ sym (append-nil (planned c.loop-slot.plan)))
    ]

pub returns : goal.returns
returns c = record {
  value = c.loop-slot.invariant.0 ∙ ap (flat_map resend) (take_all c.loop-slot.slot-index c.args.last.now (omega arith));
  nine = search rules;
}
