-- A call leaves every process alone but the one that it is about.
use Rattle.std.proofs.Common.{◌≡◌, ℕ, ◌-◌, ◌≤◌, Bool, true, false, not, ◌&&◌, eqb, List, [], ◌∷◌, length, get_or, take, set, is_some, Some, None, Ok, Err, Option, Result, refl, ap, ◌∙◌, arith, get_or-set_other}
use Rattle.std.proofs.lemmas.Bool.{and_right, cond-false, ne_eqb}
use Rattle.tray.specs.Items.{element}
use Rattle.process.specs.declared.memory.Action.{Action}
use Rattle.process.specs.declared.memory.Action.TheVariants.{Write, Send}
use Rattle.process.specs.declared.memory.Status.{Status}
use Rattle.process.specs.declared.memory.Status.TheVariants.{Down, Up}
use Rattle.process.specs.declared.message.Message.{Message}
use Rattle.process.specs.declared.turn.NoRound.{NoRound}
use Rattle.process.specs.Looks.{epochs_fit, look}
use Rattle.process.specs.Messages.{is_reading, well_formed}
use Rattle.process.specs.Phases.{is_done}
use Rattle.process.specs.Rounds.{Step}
use Rattle.agreement.specs.Lists.{PanelCall}
use Rattle.agreement.specs.declared.call.Call.TheVariants.{Propose, Recover, Look, Deliver, Again, Lose, Crash}
use Rattle.agreement.specs.declared.call.Refusal.{Refusal}
use Rattle.agreement.specs.Calls.{State, Verdict, again_at, allowed, carried, crash_at, cut_fits, deliver_at, deliver_it, early, ends, if_step, is_idle, look_at, member, need, propose_at, recover_at, refuse, perform, put_down, drop_message, status, verdict, world}
use Rattle.agreement.specs.Causes.{Apart, actor, addressee_of}
use Rattle.agreement.specs.Worlds.{World, act, performed}
use Rattle.agreement.proofs.Ranges.{ends_of, within}
use Rattle.store.specs.CellNames.{cell_number}

module _ (places p q d : ℕ) (other : q ≡ p → ⊥) where
  act_apart : (w : World) (a : Action) → (act places p w a).cells q d ≡ w.cells q d
  act_apart w (Write c v) = cond-false (eqb d (cell_number c) && eqb q p) (Some v) (w.cells q d) (and_right (eqb d (cell_number c)) (eqb q p) (ne_eqb q p other))
  act_apart w (Send m) = refl

  performed_apart : (acts : List Action) (w : World) → (performed places p w acts).cells q d ≡ w.cells q d
  performed_apart [] w = refl
  performed_apart (a ∷ acts) w = performed_apart acts (act places p w a) ∙ act_apart w a

-- what a verdict is about, by its case
abbrev By : Verdict → ℕ → Type 0
By (refuse e) p = Unit {0}
By (perform q cut t) p = (q ≡ p) × (1 ≤ q)
By (put_down q) p = (q ≡ p) × (1 ≤ q)
By (drop_message i) p = Unit {0}

-- a verdict is about p alone
record About (v : Verdict) (p : ℕ) : Type 0 where
  by : By v p

status_apart : (s : State) (p q : ℕ) (x : Status) (t : State) → 1 ≤ p → 1 ≤ q → (q ≡ p → ⊥) → t.statuses ≡ set s.statuses (p - 1) x → status t q ≡ status s q
status_apart s p q x t low lowq other e = ap (λ l. get_or l (q - 1) Down) e ∙ get_or-set_other s.statuses (p - 1) (q - 1) x Down (λ h. other (omega arith))

carried_apart : (v : Verdict) (s : State) (p : ℕ) → By v p → Apart p s (carried v s).after
carried_apart (refuse e) s p b q low other = (refl, λ d. refl)
carried_apart (perform r cut t) s p b q low other =
    let far : q ≡ r → ⊥ = λ e. other (e ∙ b.0) in (
      status_apart s r q (ends cut t.memory) (carried (perform r cut t) s).after b.1 low far refl,
      λ d. performed_apart s.places r q d far (take (allowed cut (length t.acts)) t.acts) (world s),
    )
carried_apart (put_down r) s p b q low other = (status_apart s r q Down (carried (put_down r) s).after b.1 low (λ e. other (e ∙ b.0)) refl, λ d. refl)
carried_apart (drop_message i) s p b q low other = (refl, λ d. refl)

refused : (e : Refusal) (p : ℕ) → About (refuse e) p
refused e p = record { by = tt }

-- tested first
after : (b : Bool) (e : Refusal) (v : Verdict) (p : ℕ) → (b ≡ true → About v p) → About (need b e v) p
after true e v p h = h refl
after false e v p h = refused e p

its_own : (p : ℕ) (cut : Option ℕ) (t : Step) → 1 ≤ p → About (perform p cut t) p
its_own p cut t low = record { by = (refl, low) }

module _ (s : State) where
  crashes : (y : Status) (p : ℕ) → 1 ≤ p → About (crash_at y p) p
  crashes Down p low = refused _ p
  crashes (Up m) p low = record { by = (refl, low) }

  recovers : (y : Status) (p : ℕ) (cut : Option ℕ) → 1 ≤ p → About (recover_at y p cut s) p
  recovers Down p cut low = its_own p cut _ low
  recovers (Up m) p cut low = refused _ p

  repeats : (y : Status) (p : ℕ) (cut : Option ℕ) → 1 ≤ p → About (again_at y p cut) p
  repeats Down p cut low = refused _ p
  repeats (Up m) p cut low = after (not (is_done m.phase)) _ _ p (λ _. after (not (is_idle m.phase)) _ _ p (λ _. its_own p cut _ low))

  proposes : (y : Status) (p v : ℕ) (cut : Option ℕ) → 1 ≤ p → About (propose_at y p v cut s) p
  proposes Down p v cut low = refused _ p
  proposes (Up m) p v cut low =
      after (not (is_done m.phase)) _ _ p (λ _. after (not (is_some (s.cells p 1))) _ _ p (λ _. after (is_reading v) _ _ p (λ _. its_own p cut _ low)))

  goes : (p : ℕ) (cut : Option ℕ) (r : Result Step NoRound) → 1 ≤ p → About (if_step p cut r) p
  goes p cut (Ok t) low = its_own p cut t low
  goes p cut (Err e) low = refused _ p

  looks : (y : Status) (p : ℕ) (list : List (Option ℕ)) (cut : Option ℕ) → 1 ≤ p → About (look_at y p list cut s) p
  looks Down p list cut low = refused _ p
  looks (Up m) p list cut low =
      after (not (is_done m.phase)) _ _ p
      (λ _. after (not (is_idle m.phase)) _ _ p
      (λ _. after (eqb (length list) s.size && epochs_fit list) _ _ p (λ _. goes p cut (look s.size p s.enough list m) low)))

  reaches : (y : Status) (m : Message) (cut : Option ℕ) → 1 ≤ m.addressee → About (deliver_at y m cut s) m.addressee
  reaches Down m cut low = refused _ m.addressee
  reaches (Up y) m cut low = after (not (early m y)) _ _ m.addressee (λ _. its_own m.addressee cut _ low)

  delivers : (o : Option Message) (cut : Option ℕ) → About (deliver_it o cut s) (addressee_of o)
  delivers None cut = refused _ 0
  delivers (Some m) cut = after (well_formed s.size m) _ _ m.addressee (λ e. reaches (status s m.addressee) m cut (ends_of s.size m e).1)

  named : (p : ℕ) (cut : Option ℕ) (v : Verdict) → (1 ≤ p → About v p) → About (need (cut_fits cut) Refusal.CutTooLarge (need (member s p) Refusal.NoSuchProcess v)) p
  named p cut v h = after (cut_fits cut) _ _ p (λ _. after (member s p) _ v p (λ m. h (within 1 s.size p m).0))

  about : (c : PanelCall) → About (verdict c s) (actor c s)
  about (Propose p v cut) = named p cut _ (proposes (status s p) p v cut)
  about (Recover p cut) = named p cut _ (recovers (status s p) p cut)
  about (Look p list cut) = named p cut _ (looks (status s p) p list.now cut)
  about (Deliver i cut) = after (cut_fits cut) _ _ _ (λ _. delivers (element s.box i) cut)
  about (Again p cut) = named p cut _ (repeats (status s p) p cut)
  about (Lose i) = after (is_some (element s.box i)) _ (drop_message i) 0 (λ _. record { by = tt })
  about (Crash p) = after (member s p) _ _ p (λ m. crashes (status s p) p (within 1 s.size p m).0)

  pub apart : (c : PanelCall) → Apart (actor c s) s (carried (verdict c s) s).after
  apart c = carried_apart (verdict c s) s (actor c s) (about c).by
