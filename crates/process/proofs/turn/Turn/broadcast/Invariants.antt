use Rattle.std.proofs.Common.{◌≡◌, ◌+◌, ◌-◌, ◌≤◌}
use Rattle.process.specs.Rounds.{to_all}
use Rattle.process.specs.Turns.{step, used}
use Rattle.process.proofs.turn.Turn.broadcast.Given as goal

abbrev pub invariant-loop-number : goal.invariant-loop-number
invariant-loop-number g l =
    (step l.self ≡ to_all (l.number - 1) l.message (step l.initial.self)) × (used l.self ≤ used l.initial.self + (l.number - 1))
