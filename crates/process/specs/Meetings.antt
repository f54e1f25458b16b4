-- What a delivered message does.
use Rattle.std.specs.Prelude.{ℕ, ◌-◌, max, Bool, true, cond, ◌&&◌, List, [], ◌∷◌, ◌++◌, is_some, Some, None, Option, ◌==◌, slice_index_or, slice_set}
use Rattle.std.specs.List.{flat_map}
use Rattle.store.specs.declared.content.Content.{Content}
use Rattle.process.specs.declared.message.Message.{Message}
use Rattle.process.specs.declared.memory.Action.{Action}
use Rattle.process.specs.declared.memory.Action.TheVariants.{Send}
use Rattle.process.specs.declared.memory.Memory.{Memory}
use Rattle.process.specs.declared.memory.Phase.TheVariants.{Acked, Done}
use Rattle.process.specs.Phases.{is_waiting, is_gathering, is_confirming, is_done, is_estimate, is_new_estimate, is_ack, is_decide}
use Rattle.process.specs.Rounds.{Step, ack, addressed, coordinator, decide, in_phase, remember, send, settle, write}
use Rattle.store.specs.declared.content.CellName.TheVariants as CellName

-- the estimate of a sender is kept if none is kept from it
abbrev pub keep : Message → Memory → Memory
keep m y = record y {
  kept = cond (is_some (slice_index_or y.kept (m.sender - 1) None)) y.kept (slice_set y.kept (m.sender - 1) (Some (record { sender = m.sender; reading = m.reading; stamp = m.stamp })));
}

-- the sender joins the acknowledgers
abbrev pub join : Message → Memory → Memory
join m y = record y { acknowledgers = slice_set y.acknowledgers (m.sender - 1) true }

-- the coordinator's reading is taken over, under the round's stamp
abbrev pub adopt : Message → Memory → Memory
adopt m y = record y { reading = m.reading; stamp = y.round }

-- heard rises to the message's round if that is higher
abbrev pub hear : Message → Memory → Memory
hear m y = record y { heard = max y.heard m.round }

-- waiting, NEWESTIMATE from c
abbrev pub accept : ℕ → Message → Step → Step
accept p m s =
    remember (in_phase Acked) (send (addressed (ack p s.memory.round) m.sender) (write CellName.Pair m.reading s.memory.round (remember (adopt m) s)))

-- the meeting of p's phase and the message's kind
abbrev pub meet : ℕ → ℕ → (List Bool → Bool) → Message → Step → Step
meet n p enough m s =
    cond (is_gathering s.memory.phase && is_estimate m.kind) (settle n p enough (remember (keep m) s))
    (cond (is_confirming s.memory.phase && is_ack m.kind) (settle n p enough (remember (join m) s))
    (cond (is_waiting s.memory.phase && is_new_estimate m.kind && m.sender == coordinator n s.memory.round) (accept p m s) s))

-- a message sent that counts as no last message
abbrev pub post : Message → Step → Step
post m s = record s { acts = s.acts ++ (Send m ∷ []) }

-- done: the decision goes to the sender of any kind but DECIDE
abbrev pub reply : ℕ → Option Content → Message → Step → Step
reply p None m s = s
reply p (Some d) m s = cond (is_decide m.kind) s (post (addressed (decide p d.number) m.sender) s)

-- not done, given DECIDE
abbrev pub learn : Message → Step → Step
learn m s = remember (in_phase Done) (write CellName.Decision m.reading 0 s)

-- not done, given any other kind
abbrev pub heed : ℕ → ℕ → (List Bool → Bool) → Message → Step → Step
heed n p enough m s = cond (m.round == s.memory.round) (meet n p enough m (remember (hear m) s)) (remember (hear m) s)

-- Deliver: what the message does to its addressee p, whose decision cell holds d
unfoldable pub deliver : ℕ → ℕ → (List Bool → Bool) → Option Content → Message → Step → Step
deliver n p enough d m s = cond (is_done s.memory.phase) (reply p d m s) (cond (is_decide m.kind) (learn m s) (heed n p enough m s))

-- a message sent once more, if there is one
abbrev pub resend : Option Message → List Action
resend None = []
resend (Some m) = Send m ∷ []

-- Again: the last messages, in rising order of the addressee
abbrev pub again : Memory → Step
again y = record { memory = y; acts = flat_map resend y.last }
