-- Every call is refused for the cause with the lowest number.
use Rattle.std.proofs.Common.{◌≡◌, ℕ, ◌≤◌, Bool, true, false, cond, not, ◌&&◌, eqb, leb, List, [], ◌∷◌, length, is_some, is_ok, Some, None, Ok, Err, Option, Result, sym, refl, subst, inl, inr, le_refl}
use Rattle.std.specs.List.{AllByRecursion}
use Rattle.std.proofs.lemmas.Bool.{and_parts, leb-true, true≢false}
use Rattle.tray.specs.Items.{element}
use Rattle.process.specs.declared.memory.Memory.{Memory}
use Rattle.process.specs.declared.memory.Status.{Status}
use Rattle.process.specs.declared.memory.Status.TheVariants.{Down, Up}
use Rattle.process.specs.declared.message.Message.{Message}
use Rattle.process.specs.Looks.{epoch_of, epochs_fit, go_on, look, must_leave, next_round, trusts_some}
use Rattle.process.specs.Messages.{is_reading, well_formed}
use Rattle.process.specs.Phases.{is_done}
use Rattle.process.specs.Ranges.{every}
use Rattle.process.specs.Rounds.{Step, coordinator}
use Rattle.agreement.specs.Lists.{PanelCall}
use Rattle.agreement.specs.declared.call.Call.TheVariants.{Propose, Recover, Look, Deliver, Again, Lose, Crash}
use Rattle.agreement.specs.declared.call.Refusal.{Refusal}
use Rattle.agreement.specs.declared.call.Refusal.TheVariants.{CutTooLarge, NoSuchProcess, NoMessage, AlreadyUp, ProcessDown, ProcessDone, AlreadyProposed, ProcessIdle, NotAReading, WrongList, NoRoundFits, EarlyAck}
use Rattle.agreement.specs.Calls.{Outcome, State, Verdict, again_at, carried, crash_at, cut_fits, deliver_at, deliver_it, done, early, if_step, is_idle, look_at, member, need, number, propose_at, recover_at, refuse, perform, put_down, drop_message, status, verdict}
use Rattle.agreement.specs.Causes.{Answered, Cause, Lowest, causes, is_down, no_round, some_with, up_with}
use Rattle.agreement.proofs.Apart.{apart}

-- no cause has a lower number
abbrev Above : Refusal → List Cause → Type 0
Above e cs = every (λ c. leb (number e) (number c.0)) cs ≡ true

above : (e : Refusal) (cs : List Cause) → Above e cs → AllByRecursion (λ c. c.1 ≡ true → number e ≤ number c.0) cs
above e [] h = tt
above e (c ∷ cs) h =
    let both = and_parts (leb (number e) (number c.0)) (every (λ d. leb (number e) (number d.0)) cs) h in
    (λ z. leb-true (number e) (number c.0) both.0, above e cs both.1)

-- the first cause is none
clear : (e : Refusal) (cs : List Cause) (r : Result ℕ Refusal) → Lowest cs r → Lowest ((e, false) ∷ cs) r
clear e cs (Ok k) h = (refl, h)
clear e cs (Err d) h = (inr h.0, (λ z. absurd (true≢false (sym z)), h.1))

-- the first cause is one
first : (e : Refusal) (cs : List Cause) → Above e cs → Lowest ((e, true) ∷ cs) (Err e)
first e cs h = (inl (refl, refl), (λ z. le_refl (number e), above e cs h))

module _ (s : State) where
  -- a verdict tells the lowest of the causes
  record Told (cs : List Cause) (v : Verdict) : Type 0 where
    tells : Lowest cs (carried v s).answer

  accepts : (e : Refusal) (cs : List Cause) (v : Verdict) → Told cs v → Told ((e, false) ∷ cs) v
  accepts e cs v l = record { tells = clear e cs (carried v s).answer l.tells }

  refuses : (e : Refusal) (cs : List Cause) → Above e cs → Told ((e, true) ∷ cs) (refuse e)
  refuses e cs h = record { tells = first e cs h }

  performs : (p : ℕ) (cut : Option ℕ) (t : Step) → Told [] (perform p cut t)
  performs p cut t = record { tells = tt }

  unless : (t : Bool) (e : Refusal) (v : Verdict) (cs : List Cause) → Above e cs → Told cs v → Told ((e, t) ∷ cs) (need (not t) e v)
  unless true e v cs h l = refuses e cs h
  unless false e v cs h l = accepts e cs v l

  where_it : (t : Bool) (e : Refusal) (v : Verdict) (cs : List Cause) → Above e cs → Told cs v → Told ((e, not t) ∷ cs) (need t e v)
  where_it true e v cs h l = accepts e cs v l
  where_it false e v cs h l = refuses e cs h

  crashed : (y : Status) (p : ℕ) → Told ((ProcessDown, is_down y) ∷ []) (crash_at y p)
  crashed Down p = refuses ProcessDown [] refl
  crashed (Up m) p = accepts ProcessDown [] _ (record { tells = tt })

  recovered : (y : Status) (p : ℕ) (cut : Option ℕ) → Told ((AlreadyUp, not (is_down y)) ∷ []) (recover_at y p cut s)
  recovered Down p cut = accepts AlreadyUp [] _ (performs _ _ _)
  recovered (Up m) p cut = refuses AlreadyUp [] refl

  repeated : (y : Status) (p : ℕ) (cut : Option ℕ)
      → Told ((ProcessDown, is_down y) ∷ (ProcessDone, up_with (λ m. is_done m.phase) y) ∷ (ProcessIdle, up_with (λ m. is_idle m.phase) y) ∷ []) (again_at y p cut)
  repeated Down p cut = refuses ProcessDown _ refl
  repeated (Up m) p cut = accepts ProcessDown _ _ (unless (is_done m.phase) ProcessDone _ _ refl (unless (is_idle m.phase) ProcessIdle _ [] refl (performs _ _ _)))

  proposed : (y : Status) (p v : ℕ) (cut : Option ℕ)
      → Told ((ProcessDown, is_down y) ∷ (ProcessDone, up_with (λ m. is_done m.phase) y) ∷ (AlreadyProposed, is_some (s.cells p 1)) ∷ (NotAReading, not (is_reading v)) ∷ []) (propose_at y p v cut s)
  proposed Down p v cut = refuses ProcessDown _ refl
  proposed (Up m) p v cut =
      accepts ProcessDown _ _
      (unless (is_done m.phase) ProcessDone _ _ refl
      (unless (is_some (s.cells p 1)) AlreadyProposed _ _ refl (where_it (is_reading v) NotAReading _ [] refl (performs _ _ _))))

  went : (p : ℕ) (cut : Option ℕ) (m : Memory) (a b : Bool) (o : Option ℕ) (x y : Step)
      → Told ((NoRoundFits, a && b && not (is_some o)) ∷ []) (if_step p cut (cond a (cond b (go_on s.size p s.enough m o) (Ok x)) (Ok y)))
  went p cut m true true None x y = refuses NoRoundFits [] refl
  went p cut m true true (Some r) x y = accepts NoRoundFits [] _ (performs _ _ _)
  went p cut m true false o x y = accepts NoRoundFits [] _ (performs _ _ _)
  went p cut m false b o x y = accepts NoRoundFits [] _ (performs _ _ _)

  stepped : (p : ℕ) (list : List (Option ℕ)) (cut : Option ℕ) (m : Memory) → Told ((NoRoundFits, no_round s.size list m) ∷ []) (if_step p cut (look s.size p s.enough list m))
  unfolding look
  stepped p list cut m = went p cut m (trusts_some list) (must_leave (epoch_of list (coordinator s.size m.round)) m) (next_round s.size list m) _ _

  looked : (y : Status) (p : ℕ) (list : List (Option ℕ)) (cut : Option ℕ)
      → Told
      ((ProcessDown, is_down y) ∷ (ProcessDone, up_with (λ m. is_done m.phase) y) ∷ (ProcessIdle, up_with (λ m. is_idle m.phase) y)
      ∷ (WrongList, not (eqb (length list) s.size && epochs_fit list)) ∷ (NoRoundFits, up_with (no_round s.size list) y) ∷ []) (look_at y p list cut s)
  looked Down p list cut = refuses ProcessDown _ refl
  looked (Up m) p list cut =
      accepts ProcessDown _ _
      (unless (is_done m.phase) ProcessDone _ _ refl
      (unless (is_idle m.phase) ProcessIdle _ _ refl
      (where_it (eqb (length list) s.size && epochs_fit list) WrongList _ _ refl (stepped p list cut m))))

  delivered_to : (y : Status) (m : Message) (cut : Option ℕ) → Told ((ProcessDown, is_down y) ∷ (EarlyAck, up_with (early m) y) ∷ []) (deliver_at y m cut s)
  delivered_to Down m cut = refuses ProcessDown _ refl
  delivered_to (Up y) m cut = accepts ProcessDown _ _ (unless (early m y) EarlyAck _ [] refl (performs _ _ _))

  delivered : (o : Option Message) (cut : Option ℕ)
      → Told
      ((NoMessage, not (some_with (well_formed s.size) o)) ∷ (ProcessDown, some_with (λ m. is_down (status s m.addressee)) o)
      ∷ (EarlyAck, some_with (λ m. up_with (early m) (status s m.addressee)) o) ∷ []) (deliver_it o cut s)
  delivered None cut = refuses NoMessage _ refl
  delivered (Some m) cut = where_it (well_formed s.size m) NoMessage _ _ refl (delivered_to (status s m.addressee) m cut)

  -- with a cut and a process of its own
  named : (p : ℕ) (cut : Option ℕ) (v : Verdict) (cs : List Cause) → Above CutTooLarge cs → Above NoSuchProcess cs → Told cs v
      → Told ((CutTooLarge, not (cut_fits cut)) ∷ (NoSuchProcess, not (member s p)) ∷ cs) (need (cut_fits cut) CutTooLarge (need (member s p) NoSuchProcess v))
  named p cut v cs g h l = where_it (cut_fits cut) CutTooLarge _ _ g (where_it (member s p) NoSuchProcess v cs h l)

  told_lowest : (c : PanelCall) → Told (causes c s) (verdict c s)
  told_lowest (Propose p v cut) = named p cut _ _ refl refl (proposed (status s p) p v cut)
  told_lowest (Recover p cut) = named p cut _ _ refl refl (recovered (status s p) p cut)
  told_lowest (Look p list cut) = named p cut _ _ refl refl (looked (status s p) p list.now cut)
  told_lowest (Deliver i cut) = where_it (cut_fits cut) CutTooLarge _ _ refl (delivered (element s.box i) cut)
  told_lowest (Again p cut) = named p cut _ _ refl refl (repeated (status s p) p cut)
  told_lowest (Lose i) = where_it (is_some (element s.box i)) NoMessage _ [] refl (record { tells = tt })
  told_lowest (Crash p) = where_it (member s p) NoSuchProcess _ _ refl (crashed (status s p) p)

-- what is refused changes nothing
unchanged : (v : Verdict) (s : State) → is_ok (carried v s).answer ≡ false → (carried v s).after ≡ s
unchanged (refuse e) s h = refl
unchanged (perform p cut t) s h = absurd (true≢false h)
unchanged (put_down p) s h = absurd (true≢false h)
unchanged (drop_message i) s h = absurd (true≢false h)

-- a call that is the same as another, and comes to the verdict on that
pub answered : (c d : PanelCall) (s : State) (o : Outcome) → c ≡ d → o ≡ done (verdict d) s → Answered c s o
answered c d s o is e = subst (λ (x : PanelCall). Answered x s o) (sym is) (subst (Answered d s) (sym e) (record { value = refl; lowest = (told_lowest s d).tells; left = unchanged (verdict d s) s; apart = apart s d }))
