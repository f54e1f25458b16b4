-- The names of kinds and phases.
use Rattle.std.specs.Prelude.{ℕ, List, codes}
use Rattle.process.specs.declared.memory.Phase.{Phase}
use Rattle.process.specs.declared.memory.Phase.TheVariants.{Idle, Waiting, Acked, Gathering, Confirming, Done}
use Rattle.process.specs.declared.message.Kind.{Kind}
use Rattle.process.specs.declared.message.Kind.TheVariants.{NewRound, Estimate, NewEstimate, Ack, Decide}

-- the name of a kind
abbrev pub kind_name : Kind → List ℕ
kind_name NewRound = codes "NEWROUND"
kind_name Estimate = codes "ESTIMATE"
kind_name NewEstimate = codes "NEWESTIMATE"
kind_name Ack = codes "ACK"
kind_name Decide = codes "DECIDE"

-- the name of a phase
abbrev pub phase_name : Phase → List ℕ
phase_name Idle = codes "idle"
phase_name Waiting = codes "waiting"
phase_name Acked = codes "acked"
phase_name Gathering = codes "gathering"
phase_name Confirming = codes "confirming"
phase_name Done = codes "done"
