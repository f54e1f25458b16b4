-- Tests of phases and kinds.
use Rattle.std.specs.Prelude.{Bool, true, false}
use Rattle.process.specs.declared.message.Kind.{Kind}
use Rattle.process.specs.declared.message.Kind.TheVariants.{NewRound, Estimate, NewEstimate, Ack, Decide}
use Rattle.process.specs.declared.memory.Phase.{Phase}
use Rattle.process.specs.declared.memory.Phase.TheVariants.{Idle, Waiting, Acked, Gathering, Confirming, Done}

-- for the choice of the coordinator
abbrev pub is_waiting : Phase → Bool
is_waiting Idle = false
is_waiting Waiting = true
is_waiting Acked = false
is_waiting Gathering = false
is_waiting Confirming = false
is_waiting Done = false

-- estimates, as the coordinator
abbrev pub is_gathering : Phase → Bool
is_gathering Idle = false
is_gathering Waiting = false
is_gathering Acked = false
is_gathering Gathering = true
is_gathering Confirming = false
is_gathering Done = false

-- its choice, as the coordinator
abbrev pub is_confirming : Phase → Bool
is_confirming Idle = false
is_confirming Waiting = false
is_confirming Acked = false
is_confirming Gathering = false
is_confirming Confirming = true
is_confirming Done = false

-- with a decision
abbrev pub is_done : Phase → Bool
is_done Idle = false
is_done Waiting = false
is_done Acked = false
is_done Gathering = false
is_done Confirming = false
is_done Done = true

-- in a round
abbrev pub is_active : Phase → Bool
is_active Idle = false
is_active Waiting = true
is_active Acked = true
is_active Gathering = true
is_active Confirming = true
is_active Done = false

-- the kinds, one by one
abbrev pub is_estimate : Kind → Bool
is_estimate NewRound = false
is_estimate Estimate = true
is_estimate NewEstimate = false
is_estimate Ack = false
is_estimate Decide = false

-- a choice
abbrev pub is_new_estimate : Kind → Bool
is_new_estimate NewRound = false
is_new_estimate Estimate = false
is_new_estimate NewEstimate = true
is_new_estimate Ack = false
is_new_estimate Decide = false

-- that a choice was taken over
abbrev pub is_ack : Kind → Bool
is_ack NewRound = false
is_ack Estimate = false
is_ack NewEstimate = false
is_ack Ack = true
is_ack Decide = false

-- a decision
abbrev pub is_decide : Kind → Bool
is_decide NewRound = false
is_decide Estimate = false
is_decide NewEstimate = false
is_decide Ack = false
is_decide Decide = true
