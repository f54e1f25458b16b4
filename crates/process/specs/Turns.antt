-- What a turn means: a memory, and a list of actions.
use Rattle.std.specs.Prelude.{ℕ, List, length, take, Ok, Err, Result}
use Rattle.process.specs.declared.memory.Action.{Action}
use Rattle.process.specs.declared.turn.Plan.{Plan}
use Rattle.process.specs.declared.turn.Turn.{Turn}
use Rattle.process.specs.declared.turn.NoRound.{NoRound}
use Rattle.process.specs.Rounds.{Step}

-- the actions of a plan, in order
abbrev pub planned : Plan → List Action
planned p = take p.len p.actions

-- a turn is a step in progress
abbrev pub step : Turn → Step
step t = record { memory = t.memory; acts = planned t.plan }

-- how many actions are planned
abbrev pub used : Turn → ℕ
used t = length (planned t.plan)

-- what a look comes to
abbrev pub looked : Result Turn NoRound → Result Step NoRound
looked (Ok t) = Ok (step t)
looked (Err e) = Err e
