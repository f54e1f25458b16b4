-- What each call comes to, what is seen while it is carried out, what it answers, and what holds after it.
use Rattle.std.specs.Prelude.{ℕ, ◌-◌, min, Bool, true, false, cond, not, ◌&&◌, List, [], ◌∷◌, ◌++◌, length, take, is_some, Some, None, Ok, Err, Option, Result, ◌==◌, nat_le, slice_index_or, slice_set}
use Rattle.store.specs.Cells.{Cells}
use Rattle.tray.specs.Items.{element, without}
use Rattle.process.specs.declared.message.Message.{Message}
use Rattle.process.specs.declared.memory.Memory.{Memory}
use Rattle.process.specs.declared.memory.OwnCells.{OwnCells}
use Rattle.process.specs.declared.memory.Phase.{Phase}
use Rattle.process.specs.declared.memory.Phase.TheVariants.{Idle, Waiting, Acked, Gathering, Confirming, Done}
use Rattle.process.specs.declared.memory.Status.{Status}
use Rattle.process.specs.declared.memory.Status.TheVariants.{Down, Up}
use Rattle.process.specs.declared.turn.NoRound.{NoRound}
use Rattle.process.specs.Looks.{epochs_fit, look}
use Rattle.process.specs.Meetings.{again, deliver}
use Rattle.process.specs.Messages.{is_reading, well_formed}
use Rattle.process.specs.Phases.{is_ack, is_done, is_gathering}
use Rattle.process.specs.Rounds.{Step, propose, recover, still}
use Rattle.agreement.specs.Lists.{PanelCall}
use Rattle.agreement.specs.declared.call.Call.TheVariants.{Propose, Recover, Look, Deliver, Again, Lose, Crash}
use Rattle.agreement.specs.declared.call.Refusal.{Refusal}
use Rattle.agreement.specs.declared.call.Refusal.TheVariants.{CutTooLarge, NoSuchProcess, NoMessage, AlreadyUp, ProcessDown, ProcessDone, AlreadyProposed, ProcessIdle, NotAReading, WrongList, NoRoundFits, EarlyAck}
use Rattle.agreement.specs.Worlds.{World, moments, performed}

-- a panel with its rule, its cells, the messages that wait and the places of the tray
pub record State : Type 0 where
  pub size : ℕ
  pub enough : List Bool → Bool
  pub places : ℕ
  pub statuses : List Status
  pub cells : Cells
  pub box : List Message

-- what is seen of it from outside
abbrev pub world : State → World
world s = record { cells = s.cells; box = s.box }

-- a call's answer, the count of actions or a refusal, and the state after it
pub record Outcome : Type 0 where
  pub answer : Result ℕ Refusal
  pub after : State

-- what a call comes to before anything is done: a refusal, a step of process p that may be cut, a process put down, a message taken out
pub data Verdict : Type 0 where
  refuse : Refusal → Verdict
  perform : ℕ → Option ℕ → Step → Verdict
  put_down : ℕ → Verdict
  drop_message : ℕ → Verdict

-- the number a caller is told
abbrev pub number : Refusal → ℕ
number CutTooLarge = 1
number NoSuchProcess = 2
number NoMessage = 3
number AlreadyUp = 4
number ProcessDown = 5
number ProcessDone = 6
number AlreadyProposed = 7
number ProcessIdle = 8
number NotAReading = 9
number WrongList = 10
number NoRoundFits = 11
number EarlyAck = 12

-- what a caller is told of an answer: 0 and the count of actions, or a refusal's number and no action
abbrev pub told : Result ℕ Refusal → ℕ × ℕ
told (Ok k) = (0, k)
told (Err e) = (number e, 0)

-- process p's record
abbrev pub status : State → ℕ → Status
status s p = slice_index_or s.statuses (p - 1) Down

-- p is from 1 to n
abbrev pub member : State → ℕ → Bool
member s p = nat_le 1 p && nat_le p s.size

-- a cut is at most 99
abbrev pub cut_fits : Option ℕ → Bool
cut_fits None = true
cut_fits (Some k) = nat_le k 99

-- how many of n actions are done under a cut
abbrev pub allowed : Option ℕ → ℕ → ℕ
allowed None n = n
allowed (Some k) n = min n k

-- after a cut the process is down
abbrev pub ends : Option ℕ → Memory → Status
ends None m = Up m
ends (Some k) m = Down

-- the actions are done as far as the cut goes, and the record is written back
abbrev pub finished : ℕ → Option ℕ → Step → State → Outcome
finished p cut t s =
    let k = allowed cut (length t.acts) in
    let w = performed s.places p (world s) (take k t.acts) in
    record {
      answer = Ok k;
      after = record { size = s.size; enough = s.enough; places = s.places; statuses = slice_set s.statuses (p - 1) (ends cut t.memory); cells = w.cells; box = w.box };
    }

-- a verdict carried out
abbrev pub carried : Verdict → State → Outcome
carried (refuse e) s = record { answer = Err e; after = s }
carried (perform p cut t) s = finished p cut t s
carried (put_down p) s =
    record { answer = Ok 0; after = record { size = s.size; enough = s.enough; places = s.places; statuses = slice_set s.statuses (p - 1) Down; cells = s.cells; box = s.box } }
carried (drop_message i) s =
    record { answer = Ok 0; after = record { size = s.size; enough = s.enough; places = s.places; statuses = s.statuses; cells = s.cells; box = without s.box i } }

-- what is seen from before a verdict is carried out to after it
abbrev pub shown : Verdict → State → List World
shown (refuse e) s = world s ∷ []
shown (perform p cut t) s = moments s.places p (world s) (take (allowed cut (length t.acts)) t.acts)
shown (put_down p) s = world s ∷ []
shown (drop_message i) s = world s ∷ record { cells = s.cells; box = without s.box i } ∷ []

-- refused unless the test passes
abbrev pub need : Bool → Refusal → Verdict → Verdict
need b e v = cond b v (refuse e)

-- recovered with nothing to do
abbrev pub is_idle : Phase → Bool
is_idle Idle = true
is_idle Waiting = false
is_idle Acked = false
is_idle Gathering = false
is_idle Confirming = false
is_idle Done = false

-- by the record of p
abbrev pub crash_at : Status → ℕ → Verdict
crash_at Down p = refuse ProcessDown
crash_at (Up m) p = put_down p

-- Crash p
abbrev pub crash_of : ℕ → State → Verdict
crash_of p s = need (member s p) NoSuchProcess (crash_at (status s p) p)

-- by the record of p
abbrev pub again_at : Status → ℕ → Option ℕ → Verdict
again_at Down p cut = refuse ProcessDown
again_at (Up m) p cut = need (not (is_done m.phase)) ProcessDone (need (not (is_idle m.phase)) ProcessIdle (perform p cut (again m)))

-- Again p
abbrev pub again_of : ℕ → Option ℕ → State → Verdict
again_of p cut s = need (cut_fits cut) CutTooLarge (need (member s p) NoSuchProcess (again_at (status s p) p cut))

-- by the record of p, and its proposal cell
abbrev pub propose_at : Status → ℕ → ℕ → Option ℕ → State → Verdict
propose_at Down p v cut s = refuse ProcessDown
propose_at (Up m) p v cut s =
    need (not (is_done m.phase)) ProcessDone
    (need (not (is_some (s.cells p 1))) AlreadyProposed
    (need (is_reading v) NotAReading (perform p cut (propose s.size p s.enough v (still m)))))

-- Propose p, v
abbrev pub propose_of : ℕ → ℕ → Option ℕ → State → Verdict
propose_of p v cut s = need (cut_fits cut) CutTooLarge (need (member s p) NoSuchProcess (propose_at (status s p) p v cut s))

-- process p's own four cells
abbrev pub own : State → ℕ → OwnCells
own s p = record { proposal = s.cells p 1; round = s.cells p 2; pair = s.cells p 3; decision = s.cells p 4 }

-- by the record of p
abbrev pub recover_at : Status → ℕ → Option ℕ → State → Verdict
recover_at (Up m) p cut s = refuse AlreadyUp
recover_at Down p cut s = perform p cut (recover s.size p s.enough (own s p))

-- Recover p
abbrev pub recover_of : ℕ → Option ℕ → State → Verdict
recover_of p cut s = need (cut_fits cut) CutTooLarge (need (member s p) NoSuchProcess (recover_at (status s p) p cut s))

-- an ACK of p's round while p is gathering
abbrev pub early : Message → Memory → Bool
early m y = is_gathering y.phase && is_ack m.kind && m.round == y.round

-- by the record of the addressee
abbrev pub deliver_at : Status → Message → Option ℕ → State → Verdict
deliver_at Down m cut s = refuse ProcessDown
deliver_at (Up y) m cut s =
    need (not (early m y)) EarlyAck
    (perform m.addressee cut (deliver s.size m.addressee s.enough (s.cells m.addressee 4) m (still y)))

-- by the message at the place
abbrev pub deliver_it : Option Message → Option ℕ → State → Verdict
deliver_it None cut s = refuse NoMessage
deliver_it (Some m) cut s = need (well_formed s.size m) NoMessage (deliver_at (status s m.addressee) m cut s)

-- Deliver the message at a place, which stays there
abbrev pub deliver_of : ℕ → Option ℕ → State → Verdict
deliver_of i cut s = need (cut_fits cut) CutTooLarge (deliver_it (element s.box i) cut s)

-- Lose takes the message at a place out
abbrev pub lose_of : ℕ → State → Verdict
lose_of i s = need (is_some (element s.box i)) NoMessage (drop_message i)

-- a look that has no step is refused
abbrev pub if_step : ℕ → Option ℕ → Result Step NoRound → Verdict
if_step p cut (Ok t) = perform p cut t
if_step p cut (Err e) = refuse NoRoundFits

-- by the record of p, and the list
abbrev pub look_at : Status → ℕ → List (Option ℕ) → Option ℕ → State → Verdict
look_at Down p list cut s = refuse ProcessDown
look_at (Up m) p list cut s =
    need (not (is_done m.phase)) ProcessDone
    (need (not (is_idle m.phase)) ProcessIdle
    (need (length list == s.size && epochs_fit list) WrongList (if_step p cut (look s.size p s.enough list m))))

-- Look p, list
abbrev pub look_of : ℕ → List (Option ℕ) → Option ℕ → State → Verdict
look_of p list cut s = need (cut_fits cut) CutTooLarge (need (member s p) NoSuchProcess (look_at (status s p) p list cut s))

-- what a call comes to
abbrev pub verdict : PanelCall → State → Verdict
verdict (Propose p v cut) s = propose_of p v cut s
verdict (Recover p cut) s = recover_of p cut s
verdict (Look p list cut) s = look_of p list.now cut s
verdict (Deliver i cut) s = deliver_of i cut s
verdict (Again p cut) s = again_of p cut s
verdict (Lose i) s = lose_of i s
verdict (Crash p) s = crash_of p s

-- a verdict on a state, carried out on it
abbrev pub done : (State → Verdict) → State → Outcome
done v s = carried (v s) s

-- all that is seen of calls made one after the other: the start, and the moments after each action and each call
unfoldable pub run : List PanelCall → State → List World
run [] s = world s ∷ []
run (c ∷ cs) s = shown (verdict c s) s ++ run cs (done (verdict c) s).after
