-- What holds of every step.
use Rattle.std.specs.Prelude.{◌≡◌, ℕ, ◌-◌, ◌≤◌, Bool, true, false, not, ◌&&◌, ◌||◌, ◌⊎◌, List, [], ◌∷◌, ◌++◌, length, is_some, None, Ok, Err, Result, ◌==◌, slice_index_or}
use Rattle.store.specs.declared.content.Content.{Content}
use Rattle.process.specs.declared.message.Message.{Message}
use Rattle.process.specs.declared.memory.Action.{Action}
use Rattle.process.specs.declared.memory.Action.TheVariants.{Write, Send}
use Rattle.process.specs.declared.memory.Memory.{Memory}
use Rattle.quorum.specs.Laws.{has}
use Rattle.process.specs.declared.turn.NoRound.{NoRound}
use Rattle.process.specs.Meetings.{hear}
use Rattle.process.specs.Phases.{is_ack, is_done, is_estimate, is_gathering, is_new_estimate}
use Rattle.process.specs.Ranges.{act_fits, every, memory_fits}
use Rattle.process.specs.Rounds.{Step, still}
use Rattle.store.specs.declared.content.CellName.TheVariants as CellName
use Rattle.store.specs.CellNames.{cell_number}

-- a NEWESTIMATE or an ACK of a round tells of a pair with that stamp
abbrev pub tells_of : Content → Message → Bool
tells_of v m = (is_new_estimate m.kind || is_ack m.kind) && m.round == v.stamp

-- no pair that the message tells of is written among the actions
abbrev pub is_late : Message → List Action → Bool
is_late m [] = true
is_late m (Write c v ∷ acts) = not (cell_number c == 3 && tells_of v m) && is_late m acts
is_late m (Send x ∷ acts) = is_late m acts

-- a pair is written before any message that tells of it
abbrev pub pairs_first : List Action → Bool
pairs_first [] = true
pairs_first (Write c v ∷ acts) = pairs_first acts
pairs_first (Send m ∷ acts) = is_late m acts && pairs_first acts

-- what holds of a step of process p that has at most k actions, whose messages are between processes 1 to n; `given` is what its ranges rest on
pub record Lawful (given : Type 0) (n p k : ℕ) (s : Step) : Type 0 where
  -- it is short
  pub few : length s.acts ≤ k
  -- a pair is written before any message that tells of it
  pub pairs : pairs_first s.acts ≡ true
  -- every action is one that p may do, and the memory after it is in range
  pub ranges : given → (every (act_fits n p) s.acts ≡ true) × (memory_fits n p s.memory ≡ true)

-- a look that enters no round for want of one has no step
abbrev pub LookLawful : Type 0 → ℕ → ℕ → ℕ → Result Step NoRound → Type 0
LookLawful given n p k (Ok s) = Lawful given n p k s
LookLawful given n p k (Err e) = Unit {0}

-- the acknowledgers gain only the sender of an ACK of the round, or p itself when it ends its gathering
abbrev pub Gains : ℕ → Message → Memory → Memory → Type 0
Gains p m before after =
    (k : ℕ) → has after.acknowledgers k ≡ true
    → (has before.acknowledgers k ≡ true) ⊎ ((is_ack m.kind ≡ true) × (m.round ≡ before.round) × (k ≡ m.sender - 1))
    ⊎ ((is_gathering before.phase ≡ true) × (k ≡ p - 1))

-- an ACK of a process that is an acknowledger already leaves the acknowledgers, and where they are not enough yet it does nothing: it is only heard of
pub record RepeatedAck (enough : List Bool → Bool) (m : Message) (before : Memory) (after : Step) : Type 0 where
  pub same : is_ack m.kind ≡ true → has before.acknowledgers (m.sender - 1) ≡ true → after.memory.acknowledgers ≡ before.acknowledgers
  pub nothing : is_ack m.kind ≡ true → has before.acknowledgers (m.sender - 1) ≡ true → enough before.acknowledgers ≡ false
      → is_done before.phase ≡ false → after ≡ still (hear m before)

-- an estimate of a process from which one is kept leaves the kept ones
abbrev pub KeptOnce : Message → Memory → Memory → Type 0
KeptOnce m before after =
    is_estimate m.kind ≡ true → is_some (slice_index_or before.kept (m.sender - 1) None) ≡ true → after.kept ≡ before.kept

-- the round is the first thing that an entry writes
abbrev pub RoundFirst : ℕ → Step → Step → Type 0
RoundFirst r before after =
    (rest : List Action) × (after.acts ≡ before.acts ++ (Write CellName.Round (record { number = r; stamp = 0 }) ∷ rest))
