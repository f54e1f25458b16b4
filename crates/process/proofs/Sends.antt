-- A message sent to one process more.
use Rattle.std.proofs.Common.{◌≡◌, ℕ, zero, suc, eqb, List, Option, refl, ap}
use Rattle.std.proofs.lemmas.Bool.{cond_both}
use Rattle.process.specs.declared.message.Message.{Message}
use Rattle.process.specs.declared.memory.Memory.{Memory}
use Rattle.process.specs.Rounds.{Step, send, addressed, noted, to_all}

-- a memory with other last messages
abbrev pub relast : List (Option Message) → Memory → Memory
relast l y = record y { last = l }

-- a message sent to all changes the last messages alone
pub to_all_memory : (k : ℕ) (m : Message) (s : Step) → (to_all k m s).memory ≡ relast (to_all k m s).memory.last s.memory
to_all_memory zero m s = refl
to_all_memory (suc k) m s = cond_both (eqb (suc k) m.sender) (to_all k m s) (send (addressed m (suc k)) (to_all k m s)) (λ u. u.memory ≡ relast u.memory.last s.memory)
    (λ _. to_all_memory k m s) (λ _. ap (noted (addressed m (suc k))) (to_all_memory k m s))
