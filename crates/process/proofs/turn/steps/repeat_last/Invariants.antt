use Rattle.std.proofs.Common.{◌≡◌, ◌≤◌, length, take}
use Rattle.std.specs.List.{flat_map}
use Rattle.process.specs.Meetings.{resend}
use Rattle.process.specs.Turns.{planned}
use Rattle.process.proofs.turn.steps.repeat_last.Given as goal

abbrev pub invariant-loop-slot : goal.invariant-loop-slot
invariant-loop-slot l = (planned l.plan ≡ flat_map resend (take l.slot-index l.last)) × (length (planned l.plan) ≤ l.slot-index)
