-- Why a call may be refused: its causes, each a test on its own, and which of them is told.
use Rattle.std.specs.Prelude.{◌≡◌, ℕ, ◌≤◌, Bool, true, false, not, ◌&&◌, List, [], ◌∷◌, length, is_some, is_ok, Some, None, Ok, Err, Option, Result, ◌==◌, ◌≢◌}
use Rattle.std.specs.List.{AllByRecursion}
use Rattle.tray.specs.Items.{element}
use Rattle.process.specs.declared.message.Message.{Message}
use Rattle.process.specs.declared.memory.Memory.{Memory}
use Rattle.process.specs.declared.memory.Status.{Status}
use Rattle.process.specs.declared.memory.Status.TheVariants.{Down, Up}
use Rattle.process.specs.Looks.{epoch_of, epochs_fit, must_leave, next_round, trusts_some}
use Rattle.process.specs.Messages.{is_reading, well_formed}
use Rattle.process.specs.Phases.{is_done}
use Rattle.process.specs.Rounds.{coordinator}
use Rattle.agreement.specs.Lists.{PanelCall}
use Rattle.agreement.specs.declared.call.Call.TheVariants.{Propose, Recover, Look, Deliver, Again, Lose, Crash}
use Rattle.agreement.specs.declared.call.Refusal.{Refusal}
use Rattle.agreement.specs.declared.call.Refusal.TheVariants.{CutTooLarge, NoSuchProcess, NoMessage, AlreadyUp, ProcessDown, ProcessDone, AlreadyProposed, ProcessIdle, NotAReading, WrongList, NoRoundFits, EarlyAck}
use Rattle.agreement.specs.Calls.{Outcome, State, cut_fits, done, early, is_idle, member, number, status, verdict}
use Rattle.agreement.specs.Promise.{Ever}

-- a refusal, and whether there is cause for it
abbrev pub Cause : Type 0
Cause = Refusal × Bool

-- a process is up, and its memory passes a test
abbrev pub up_with : (Memory → Bool) → Status → Bool
up_with test Down = false
up_with test (Up m) = test m

-- a process is down
abbrev pub is_down : Status → Bool
is_down y = not (up_with (λ m. true) y)

-- there is one, and it passes a test
abbrev pub some_with : {A : Type 0} → (A → Bool) → Option A → Bool
some_with test None = false
some_with test (Some x) = test x

-- a look that must enter a round, where none up to 999,999 fits
abbrev pub no_round : ℕ → List (Option ℕ) → Memory → Bool
no_round n list m = trusts_some list && must_leave (epoch_of list (coordinator n m.round)) m && not (is_some (next_round n list m))

-- the causes for which a call may be refused
abbrev pub causes : PanelCall → State → List Cause
causes (Propose p v cut) s =
    (CutTooLarge, not (cut_fits cut))
    ∷ (NoSuchProcess, not (member s p))
    ∷ (ProcessDown, is_down (status s p))
    ∷ (ProcessDone, up_with (λ m. is_done m.phase) (status s p))
    ∷ (AlreadyProposed, is_some (s.cells p 1))
    ∷ (NotAReading, not (is_reading v))
    ∷ []
causes (Recover p cut) s =
    (CutTooLarge, not (cut_fits cut))
    ∷ (NoSuchProcess, not (member s p))
    ∷ (AlreadyUp, not (is_down (status s p)))
    ∷ []
causes (Look p list cut) s =
    (CutTooLarge, not (cut_fits cut))
    ∷ (NoSuchProcess, not (member s p))
    ∷ (ProcessDown, is_down (status s p))
    ∷ (ProcessDone, up_with (λ m. is_done m.phase) (status s p))
    ∷ (ProcessIdle, up_with (λ m. is_idle m.phase) (status s p))
    ∷ (WrongList, not (length list.now == s.size && epochs_fit list.now))
    ∷ (NoRoundFits, up_with (no_round s.size list.now) (status s p))
    ∷ []
causes (Deliver i cut) s =
    (CutTooLarge, not (cut_fits cut))
    ∷ (NoMessage, not (some_with (well_formed s.size) (element s.box i)))
    ∷ (ProcessDown, some_with (λ m. is_down (status s m.addressee)) (element s.box i))
    ∷ (EarlyAck, some_with (λ m. up_with (early m) (status s m.addressee)) (element s.box i))
    ∷ []
causes (Again p cut) s =
    (CutTooLarge, not (cut_fits cut))
    ∷ (NoSuchProcess, not (member s p))
    ∷ (ProcessDown, is_down (status s p))
    ∷ (ProcessDone, up_with (λ m. is_done m.phase) (status s p))
    ∷ (ProcessIdle, up_with (λ m. is_idle m.phase) (status s p))
    ∷ []
causes (Lose i) s = (NoMessage, not (is_some (element s.box i))) ∷ []
causes (Crash p) s = (NoSuchProcess, not (member s p)) ∷ (ProcessDown, is_down (status s p)) ∷ []

-- a call is accepted if there is no cause against it, and else refused for the one with the lowest number
abbrev pub Lowest : List Cause → Result ℕ Refusal → Type 0
Lowest cs (Ok k) = AllByRecursion (λ c. c.1 ≡ false) cs
Lowest cs (Err e) = Ever (λ c. (c.0 ≡ e) × (c.1 ≡ true)) cs × AllByRecursion (λ c. c.1 ≡ true → number e ≤ number c.0) cs

-- the addressee of a message, 0 for no message
abbrev pub addressee_of : Option Message → ℕ
addressee_of None = 0
addressee_of (Some m) = m.addressee

-- the process that a call is about, 0 where it is about none
abbrev pub actor : PanelCall → State → ℕ
actor (Propose p v cut) s = p
actor (Recover p cut) s = p
actor (Look p list cut) s = p
actor (Deliver i cut) s = addressee_of (element s.box i)
actor (Again p cut) s = p
actor (Lose i) s = 0
actor (Crash p) s = p

-- the record and the cells of every process but p are as they were
abbrev pub Apart : ℕ → State → State → Type 0
Apart p s t = (q : ℕ) → 1 ≤ q → (q ≢ p) → (status t q ≡ status s q) × ((d : ℕ) → t.cells q d ≡ s.cells q d)

-- what making a call on a state comes to
pub record Answered (c : PanelCall) (s : State) (o : Outcome) : Type 0 where
  -- it is the verdict on the call, carried out
  pub value : o ≡ done (verdict c) s
  -- of the causes against it the one with the lowest number is told
  pub lowest : Lowest (causes c s) o.answer
  -- what is refused changes nothing
  pub left : is_ok o.answer ≡ false → o.after ≡ s
  -- no other process takes part
  pub apart : Apart (actor c s) s o.after
