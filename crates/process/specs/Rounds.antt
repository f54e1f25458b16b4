-- The steps of one process: from its memory and the actions so far to those after the step.
use Rattle.std.specs.Prelude.{ℕ, zero, suc, ◌+◌, ◌-◌, ◌%◌, Bool, true, false, cond, List, [], ◌∷◌, ◌++◌, map, replicate, is_some, Some, None, Option, ◌==◌, slice_set}
use Rattle.std.specs.Option.{option_to_list}
use Rattle.std.specs.List.{flat_map}
use Rattle.store.specs.declared.content.Content.{Content}
use Rattle.tray.specs.Best.{best_of}
use Rattle.tray.specs.Kinds.{prefers_estimate}
use Rattle.tray.specs.declared.kinds.Estimate.{Estimate}
use Rattle.process.specs.declared.message.Message.{Message}
use Rattle.process.specs.declared.message.Kind.TheVariants.{NewRound, Estimate as Estimated, NewEstimate, Ack, Decide}
use Rattle.process.specs.declared.memory.Action.{Action}
use Rattle.process.specs.declared.memory.Action.TheVariants.{Write, Send}
use Rattle.process.specs.declared.memory.Memory.{Memory}
use Rattle.process.specs.declared.memory.OwnCells.{OwnCells}
use Rattle.process.specs.declared.memory.Phase.{Phase}
use Rattle.process.specs.declared.memory.Phase.TheVariants.{Idle, Waiting, Acked, Gathering, Confirming, Done}
use Rattle.process.specs.Phases.{is_gathering, is_confirming}
use Rattle.store.specs.declared.content.CellName.{CellName}

-- a step in progress
pub record Step : Type 0 where
  pub memory : Memory
  pub acts : List Action

-- the memory changed, and nothing done
abbrev pub remember : (Memory → Memory) → Step → Step
remember f s = record s { memory = f s.memory }

-- one cell written
abbrev pub write : CellName → ℕ → ℕ → Step → Step
write c n t s = record s { acts = s.acts ++ (Write c (record { number = n; stamp = t }) ∷ []) }

-- m counts as the last message to its addressee
abbrev pub noted : Message → Memory → Memory
noted m y = record y { last = slice_set y.last (m.addressee - 1) (Some m) }

-- one message sent
abbrev pub send : Message → Step → Step
send m s = record { memory = noted m s.memory; acts = s.acts ++ (Send m ∷ []) }

-- a message with another addressee
abbrev pub addressed : Message → ℕ → Message
addressed m q = record m { addressee = q }

-- a message sent to the processes 1 to k other than its sender, in rising order
abbrev pub to_all : ℕ → Message → Step → Step
to_all zero m s = s
to_all (suc k) m s = cond (suc k == m.sender) (to_all k m s) (send (addressed m (suc k)) (to_all k m s))

-- the coordinator of round r among n processes
abbrev pub coordinator : ℕ → ℕ → ℕ
coordinator n r = r % n + 1

-- the set of process p alone
abbrev pub only : ℕ → List Bool
only p = slice_set (replicate 9 false) (p - 1) true

-- the senders of kept estimates
abbrev pub senders : List (Option Estimate) → List Bool
senders ks = map is_some ks

-- the best kept estimate
abbrev pub best_kept : List (Option Estimate) → Option Estimate
best_kept ks = best_of prefers_estimate (flat_map option_to_list ks)

-- the choice e of round r: e and its stamp, p the one acknowledger, confirming
abbrev pub choose : ℕ → ℕ → Memory → Memory
choose p e y = record y { phase = Confirming; reading = e; stamp = y.round; acknowledgers = only p }

-- another phase
abbrev pub in_phase : Phase → Memory → Memory
in_phase f y = record y { phase = f }

-- messages of process p, whose addressee is filled in by who sends them; first that it began a round
abbrev pub new_round : ℕ → ℕ → Message
new_round p r = record { sender = p; addressee = 0; kind = NewRound; round = r; reading = 0; stamp = 0 }

-- its estimate for a round
abbrev pub estimate : ℕ → ℕ → ℕ → ℕ → Message
estimate p r e t = record { sender = p; addressee = 0; kind = Estimated; round = r; reading = e; stamp = t }

-- its choice in a round
abbrev pub new_estimate : ℕ → ℕ → ℕ → Message
new_estimate p r e = record { sender = p; addressee = 0; kind = NewEstimate; round = r; reading = e; stamp = 0 }

-- that it took the choice over
abbrev pub ack : ℕ → ℕ → Message
ack p r = record { sender = p; addressee = 0; kind = Ack; round = r; reading = 0; stamp = 0 }

-- its decision
abbrev pub decide : ℕ → ℕ → Message
decide p e = record { sender = p; addressee = 0; kind = Decide; round = 0; reading = e; stamp = 0 }

-- e is the reading and the round its stamp; the pair is written, and NEWESTIMATE sent to all
abbrev pub propound : ℕ → ℕ → ℕ → Step → Step
propound n p e s = to_all n (new_estimate p s.memory.round e) (write CellName.Pair e s.memory.round (remember (choose p e) s))

-- the best estimate, if there is one, is the choice
abbrev pub chosen : ℕ → ℕ → Option Estimate → Step → Step
chosen n p None s = s
chosen n p (Some b) s = propound n p b.reading s

-- the choice: gathering, and the senders of kept estimates are enough
abbrev pub gathered : ℕ → ℕ → (List Bool → Bool) → Step → Step
gathered n p enough s =
    cond (is_gathering s.memory.phase) (cond (enough (senders s.memory.kept)) (chosen n p (best_kept s.memory.kept) s) s) s

-- DECIDE is sent to all, the decision written, and p done
abbrev pub conclude : ℕ → ℕ → Step → Step
conclude n p s = remember (in_phase Done) (write CellName.Decision s.memory.reading 0 (to_all n (decide p s.memory.reading) s))

-- the decision: confirming, and the acknowledgers are enough
abbrev pub confirmed : ℕ → ℕ → (List Bool → Bool) → Step → Step
confirmed n p enough s =
    cond (is_confirming s.memory.phase)
    (cond (enough s.memory.acknowledgers) (conclude n p s) s)
    s

-- Settle: first the choice, then the decision
unfoldable pub settle : ℕ → ℕ → (List Bool → Bool) → Step → Step
settle n p enough s = confirmed n p enough (gathered n p enough s)

-- the memory at the entry into round r
abbrev pub begin : ℕ → Memory → Memory
begin r y = record y { round = r; epoch = None; kept = replicate 9 None; acknowledgers = replicate 9 false }

-- p keeps its own estimate, and gathers
abbrev pub gather : ℕ → Memory → Memory
gather p y = record y { phase = Gathering; kept = slice_set y.kept (p - 1) (Some (record { sender = p; reading = y.reading; stamp = y.stamp })) }

-- p is the one acknowledger, and confirms
abbrev pub confirm : ℕ → Memory → Memory
confirm p y = record y { phase = Confirming; acknowledgers = only p }

-- the coordinator p begins its round: it confirms a choice that it made in this round before, else it gathers
abbrev pub lead : ℕ → ℕ → ℕ → Step → Step
lead n p r s =
    cond (s.memory.stamp == r)
    (to_all n (new_estimate p r s.memory.reading) (remember (confirm p) s))
    (remember (gather p) (to_all n (new_round p r) s))

-- any other process begins its round: it acknowledges a choice that it took over in this round before, else it sends its estimate; c is the coordinator
abbrev pub follow : ℕ → ℕ → ℕ → Step → Step
follow p c r s =
    cond (s.memory.stamp == r)
    (remember (in_phase Acked) (send (addressed (ack p r) c) s))
    (remember (in_phase Waiting) (send (addressed (estimate p r s.memory.reading s.memory.stamp) c) s))

-- the four ways into a round that is begun
abbrev pub entered : ℕ → ℕ → (List Bool → Bool) → ℕ → Step → Step
entered n p enough r s = cond (p == coordinator n r) (settle n p enough (lead n p r s)) (follow p (coordinator n r) r s)

-- Enter a round: write it, begin it, and go one of the four ways
unfoldable pub enter : ℕ → ℕ → (List Bool → Bool) → ℕ → Step → Step
enter n p enough r s = entered n p enough r (write CellName.Round r 0 (remember (begin r) s))

-- what a process remembers at first
abbrev pub blank : Memory
blank = record { phase = Idle; round = 0; reading = 0; stamp = 0; heard = 0; epoch = None; kept = replicate 9 None; acknowledgers = replicate 9 false; last = replicate 9 None }

-- nothing done yet
abbrev pub still : Memory → Step
still m = record { memory = m; acts = [] }

-- the reading with its stamp
abbrev pub hold : ℕ → ℕ → Memory → Memory
hold e t y = record y { reading = e; stamp = t }

-- Propose: write the proposal, hold it, enter 1
unfoldable pub propose : ℕ → ℕ → (List Bool → Bool) → ℕ → Step → Step
propose n p enough v s = enter n p enough 1 (remember (hold v 0) (write CellName.Proposal v 0 s))

-- a cell's number, or another where it is absent
abbrev pub number_or : Option Content → ℕ → ℕ
number_or None d = d
number_or (Some x) d = x.number

-- a cell's stamp, or another where it is absent
abbrev pub stamp_or : Option Content → ℕ → ℕ
stamp_or None d = d
stamp_or (Some x) d = x.stamp

-- with a decision done, with no proposal idle, else on from the round and the pair
abbrev pub resumed : ℕ → ℕ → (List Bool → Bool) → Option Content → Option Content → Option Content → Option Content → Step
resumed n p enough (Some d) v r w = still (in_phase Done blank)
resumed n p enough None None r w = still blank
resumed n p enough None (Some v) r w = enter n p enough (number_or r 1) (still (hold (number_or w v.number) (stamp_or w 0) blank))

-- Recover, from p's own cells
unfoldable pub recover : ℕ → ℕ → (List Bool → Bool) → OwnCells → Step
recover n p enough cs = resumed n p enough cs.decision cs.proposal cs.round cs.pair
