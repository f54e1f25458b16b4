-- A coordinator through its first round.
use Rattle.std.specs.Prelude.{ℕ, cond, List, [], ◌∷◌, None, codes, ◌==◌}
use Rattle.process.specs.declared.message.Kind.{Kind}
use Rattle.process.specs.declared.message.Kind.TheVariants.{Estimate as AnEstimate, Ack as AnAck}
use Rattle.process.specs.declared.message.Message.{Message}
use Rattle.process.specs.declared.memory.OwnCells.{OwnCells}
use Rattle.process.specs.Meetings.{deliver}
use Rattle.process.specs.Rounds.{Step, propose, recover, still}
use Rattle.quorum.specs.Rules.{majority}
use Rattle.settle.specs.declared.leader.Part.{Part}
use Rattle.settle.specs.declared.leader.Part.TheVariants.{Proposal, Estimate, Ack}

-- a message of process 1 to process 2 in round 1
abbrev pub told : Kind → ℕ → Message
told kind v = record { sender = 1; addressee = 2; kind = kind; round = 1; reading = v; stamp = 0 }

-- nothing in its cells
abbrev pub bare : OwnCells
bare = record { proposal = None; round = None; pair = None; decision = None }

-- process 2 of three proposes
abbrev proposed : ℕ → Step
proposed own = propose 3 2 (majority 3) own (still (recover 3 2 (majority 3) bare).memory)

-- it is given an estimate
abbrev gathered : ℕ → ℕ → Step
gathered own other = deliver 3 2 (majority 3) None (told AnEstimate other) (still (proposed own).memory)

-- and an ACK
abbrev pub led : ℕ → ℕ → List Step
led own other =
    proposed own ∷ gathered own other ∷ deliver 3 2 (majority 3) None (told AnAck 0) (still (gathered own other).memory) ∷ []

-- the part at a place of the round, counted from 0
abbrev pub part_at : ℕ → Part
part_at i = cond (i == 0) Proposal (cond (i == 1) Estimate Ack)

-- what happens in a part of the round
abbrev pub said : Part → List ℕ
said Proposal = codes "proposes"
said Estimate = codes "is given an estimate"
said Ack = codes "is given an ACK"
