-- What each call plans may be done.
use Rattle.std.proofs.Common.{◌≡◌, ℕ, zero, suc, ◌-◌, ◌≤◌, Bool, true, false, not, ◌&&◌, T, eqb, ltb, leb, List, [], ◌∷◌, length, get_or, set, is_some, Some, None, Ok, Option, Result, refl, subst, inl, inr, le_refl, arith}
use Rattle.std.specs.List.{AllByRecursion, slice_get}
use Rattle.std.proofs.lemmas.Bool.{cond_both, and_parts, eqb-true, ltb-true}
use Rattle.store.specs.declared.content.Content.{Content}
use Rattle.store.specs.Cells.{Cells}
use Rattle.process.specs.declared.message.Kind.{Kind}
use Rattle.process.specs.declared.message.Message.{Message}
use Rattle.tray.specs.declared.kinds.Estimate.{Estimate}
use Rattle.process.specs.declared.memory.Memory.{Memory}
use Rattle.process.specs.declared.memory.Phase.{Phase}
use Rattle.agreement.specs.declared.call.Refusal.{Refusal}
use Rattle.agreement.specs.declared.call.Refusal.TheVariants.{CutTooLarge, NoSuchProcess, NoMessage, ProcessDone, AlreadyProposed, ProcessIdle, NotAReading, WrongList, EarlyAck}
use Rattle.process.specs.declared.memory.Status.{Status}
use Rattle.process.specs.declared.memory.Status.TheVariants.{Up, Down}
use Rattle.agreement.specs.Lists.{PanelCall}
use Rattle.agreement.specs.declared.call.Call.TheVariants.{Propose, Recover, Look, Deliver, Again, Lose, Crash}
use Rattle.tray.specs.Items.{element}
use Rattle.process.specs.Rounds.{Step, ack, addressed, blank, coordinator, decide, enter, hold, number_or, propose, recover, remember, resumed, settle, still, write}
use Rattle.process.specs.Meetings.{accept, hear, heed, join, keep, learn, deliver, meet, post, reply}
use Rattle.process.specs.declared.memory.OwnCells.{OwnCells}
use Rattle.process.specs.declared.turn.NoRound.{NoRound}
use Rattle.process.specs.Phases.{is_active, is_confirming, is_done, is_gathering, is_ack, is_decide, is_estimate, is_new_estimate, is_waiting}
use Rattle.process.specs.Messages.{is_reading, well_formed}
use Rattle.agreement.specs.Calls.{State, Verdict, status, member, cut_fits, need, crash_at, is_idle, again_at, own, propose_at, recover_at, early, deliver_at, deliver_it, if_step, look_at, verdict}
use Rattle.process.specs.Looks.{epoch_of, epochs_fit, trusts_some, next_round, must_leave, note, go_on, look}
use Rattle.process.proofs.Looks.{next_fits}
use Rattle.agreement.specs.Promise.{Holds}
use Rattle.process.proofs.Stages.{waiting_active}
use Rattle.agreement.proofs.Ranges.{ends_of, within}
use Rattle.agreement.proofs.Facts.{Rule, Votes, plus, rnd, Offer, coord, Chosen, GoodAs, Good, Sound, MayEnter, Offers, Lasting, Fine, Goes}
use Rattle.agreement.proofs.Grow.{at_cell, known_grows, offers_grow, lasting_grows, voters_grow}
use Rattle.agreement.proofs.Plans.{at_set, at_replicate, suc_less, noted_good, repeats_ok}
use Rattle.agreement.proofs.Settles.{put_offer, settle_ok, enter_ok}
use Rattle.store.specs.declared.content.CellName.TheVariants as CellName

none_of : {A : Type 0} (o : Option A) → not (is_some o) ≡ true → o ≡ None
none_of None e = refl
none_of (Some x) e = cc

of_nth : (P : Message → Type 0) (i : ℕ) (ms : List Message) (m : Message) → AllByRecursion P ms → slice_get ms i ≡ Some m → P m
of_nth P i [] m h e = cc
of_nth P zero (x ∷ xs) m h e = let z : x ≡ m = cc in subst P z h.0
of_nth P (suc i) (x ∷ xs) m h e = of_nth P i xs m h.1 e

of_place : (P : Message → Type 0) (i : ℕ) (ms : List Message) (m : Message) → AllByRecursion P ms → element ms i ≡ Some m → P m
of_place P zero ms m h e = cc
of_place P (suc i) ms m h e = of_nth P i ms m h e

module _ (R : Rule) where
  -- a verdict that may be carried out
  abbrev pub Okay : Votes → Cells → Verdict → Type 0
  Okay V C (Verdict.refuse e) = Unit {0}
  Okay V C (Verdict.perform p cut s) = (1 ≤ p) × Goes R V C p s
  Okay V C (Verdict.put_down p) = Unit {0}
  Okay V C (Verdict.drop_message i) = Unit {0}

  module _ (V : Votes) (C : Cells) (S : Sound R V C) where
    need_ok : (b : Bool) (e : Refusal) (v : Verdict) → (b ≡ true → Okay V C v) → Okay V C (need b e v)
    need_ok b e v h = cond_both b v (Verdict.refuse e) (Okay V C) h (λ _. tt)

    no_last : Lasting R V C blank.last
    no_last q m e = cc (at_replicate {A = Option Message} 9 q None)

    not_silent : (p : ℕ) → 1 ≤ rnd C p → C p 1 ≡ None → ⊥
    not_silent p h e = omega (arith, S.silent p e)

    busy_phase : (f : Phase) → not (is_done f) ≡ true → not (is_idle f) ≡ true → T (is_active f)
    busy_phase Phase.Idle i j = cc
    busy_phase Phase.Waiting i j = tt
    busy_phase Phase.Acked i j = tt
    busy_phase Phase.Gathering i j = tt
    busy_phase Phase.Confirming i j = tt
    busy_phase Phase.Done i j = cc

    -- what a message of its kind says
    estimate_good : (k : Kind) (m : Message) → is_estimate k ≡ true → GoodAs R V C k m → Offer V C m.sender m.round m.reading m.stamp
    estimate_good Kind.NewRound m e h = cc
    estimate_good Kind.Estimate m e h = h
    estimate_good Kind.NewEstimate m e h = cc
    estimate_good Kind.Ack m e h = cc
    estimate_good Kind.Decide m e h = cc

    new_estimate_good : (k : Kind) (m : Message) → is_new_estimate k ≡ true → GoodAs R V C k m → V (coord R m.round) m.reading m.round
    new_estimate_good Kind.NewRound m e h = cc
    new_estimate_good Kind.Estimate m e h = cc
    new_estimate_good Kind.NewEstimate m e h = h
    new_estimate_good Kind.Ack m e h = cc
    new_estimate_good Kind.Decide m e h = cc

    ack_good : (k : Kind) (m : Message) → is_ack k ≡ true → GoodAs R V C k m → (w : ℕ) × V m.sender w m.round
    ack_good Kind.NewRound m e h = cc
    ack_good Kind.Estimate m e h = cc
    ack_good Kind.NewEstimate m e h = cc
    ack_good Kind.Ack m e h = h
    ack_good Kind.Decide m e h = cc

    decide_good : (k : Kind) (m : Message) → is_decide k ≡ true → GoodAs R V C k m → Chosen R V m.reading
    decide_good Kind.NewRound m e h = cc
    decide_good Kind.Estimate m e h = cc
    decide_good Kind.NewEstimate m e h = cc
    decide_good Kind.Ack m e h = cc
    decide_good Kind.Decide m e h = h

    module _ (p : ℕ) (p1 : 1 ≤ p) where
      -- propose
      propose_ok : (v : ℕ) (μ : Memory) → Fine R V C p μ → C p 1 ≡ None → Goes R V C p (propose R.size p R.enough v (still μ))
      unfolding propose
      propose_ok v μ f e =
          let zero_round = S.silent p e in
          let x : Content = record { number = v; stamp = 0 } in
          enter_ok R p p1 V C S 1 (remember (hold v 0) (write CellName.Proposal v 0 (still μ))) (
            e,
            λ S' g. (
              record {
                up = omega arith;
                least = omega arith;
                has = at_cell (λ o. o ≡ None → ⊥) p p (Some x) (C p 1) (λ _ n. cc) (λ d. absurd (d refl));
              },
              inl refl,
              λ w s a. let b = S.bound p w s a in omega arith,
              (p, at_cell (λ o. Holds o v) p p (Some x) (C p 1) (λ _. refl) (λ d. absurd (d refl))),
              lasting_grows R g μ.last f.last,
            ),
          )

      -- recover
      left_ok : (b : Option Content) → C p 2 ≡ b → (C p 1 ≡ None → ⊥) → MayEnter R C p (number_or b 1)
      left_ok None e h = record { up = rw e (omega arith); least = omega arith; has = h }
      left_ok (Some r) e h = record { up = rw e (le_refl r.number); least = S.rounds p r.number (rw e refl); has = h }

      resume_ok : (d v r w : Option Content) → C p 1 ≡ v → C p 2 ≡ r → C p 3 ≡ w → Goes R V C p (resumed R.size p R.enough d v r w)
      resume_ok (Some d) v r w ev er ew = record { last = no_last; busy = λ i. absurd i }
      resume_ok None None r w ev er ew = record { last = no_last; busy = λ i. absurd i }
      resume_ok None (Some v) r None ev er ew =
          let l = left_ok r er (λ n. cc) in
          enter_ok R p p1 V C S (number_or r 1) (still (hold v.number 0 blank))
          (l, inl refl, λ x s a. rw ew at (S.top p x s a), (p, rw ev refl), no_last)
      resume_ok None (Some v) r (Some w) ev er ew =
          let l = left_ok r er (λ n. cc) in
          let a : V p w.number w.stamp = S.shown p w.number w.stamp (rw ew (refl, refl)) in
          enter_ok R p p1 V C S (number_or r 1) (still (hold w.number w.stamp blank))
          (l, inr a, λ x s c. rw ew at (S.top p x s c), S.known p w.number w.stamp a, no_last)

      recover_ok : (cs : OwnCells) → C p 1 ≡ cs.proposal → C p 2 ≡ cs.round → C p 3 ≡ cs.pair → Goes R V C p (recover R.size p R.enough cs)
      unfolding recover
      recover_ok cs a b c = resume_ok cs.decision cs.proposal cs.round cs.pair a b c

      -- look: a higher round
      climb_ok : (r : ℕ) (μ : Memory) → T (is_active μ.phase) → Fine R V C p μ → μ.round ≤ r → Goes R V C p (enter R.size p R.enough r (still μ))
      climb_ok r μ i f up =
          let a = f.busy i in
          let here = a.stand.round in
          let least = a.stand.least in
          enter_ok R p p1 V C S r (still μ)
          (record { up = omega arith; least = omega arith; has = not_silent p (omega arith) }, a.stand.cast, a.stand.top, a.stand.known, f.last)

      -- deliver
      accept_ok : (μ : Memory) (m : Message) → is_waiting μ.phase ≡ true → m.sender ≡ coord R μ.round → V (coord R μ.round) m.reading μ.round → Fine R V C p μ
          → Goes R V C p (accept p m (still μ))
      accept_ok μ m i from vote f =
          let r = μ.round in
          let c = coord R r in
          let a = f.busy (rw (waiting_active μ.phase i) tt) in
          let W = plus V p m.reading r in
          let known = S.known c m.reading r vote in (
            record {
              here = a.stand.round;
              least = a.stand.least;
              known = known;
              backed = inl vote;
              safe = λ u h. S.safe c m.reading r u vote h;
            },
            λ S' g. (
              (m.reading, inr (refl, refl, refl)),
              λ S'' g'. record {
                last = noted_good R p (addressed (ack p r) m.sender) μ.last (lasting_grows R g μ.last f.last) (m.reading, inr (refl, refl, refl));
                busy = λ _. record {
                  stand = record {
                    round = a.stand.round;
                    least = a.stand.least;
                    cast = inr (inr (refl, refl, refl));
                    top = λ v s h. rw a.stand.round at (S'.bound p v s h);
                    known = known_grows g m.reading known;
                  };
                  offers = offers_grow R g r μ.kept a.offers;
                  voters = voters_grow R g.votes r μ.acknowledgers a.voters;
                  role = tt;
                };
              },
            ),
          )

      meet_ok : (μ : Memory) (m : Message) → 1 ≤ m.sender → m.round ≡ μ.round → Good R V C m → Fine R V C p μ → Goes R V C p (meet R.size p R.enough m (still μ))
      meet_ok μ m from same good f =
          let n = R.size in
          let q = R.enough in
          let c = coord R μ.round in
          cond_both (is_gathering μ.phase && is_estimate m.kind) (settle n p q (remember (keep m) (still μ))) _ (Goes R V C p)
          (λ i. settle_ok R p p1 V C S (remember (keep m) (still μ)) (record {
            last = f.last;
            busy = λ b. let a = f.busy b in let e : Estimate = record { sender = m.sender; reading = m.reading; stamp = m.stamp } in record {
              stand = a.stand;
              offers = cond_both (is_some (get_or μ.kept (m.sender - 1) None)) μ.kept (set μ.kept (m.sender - 1) (Some e)) (Offers R V C μ.round)
                  (λ _. a.offers)
                  (λ _. put_offer R p μ.round V C μ.kept m.sender e from a.offers (rw same at (estimate_good m.kind m (and_parts (is_gathering μ.phase) (is_estimate m.kind) i).1 good)));
              voters = a.voters;
              role = a.role;
            };
          }))
          (λ _. cond_both (is_confirming μ.phase && is_ack m.kind) (settle n p q (remember (join m) (still μ))) _ (Goes R V C p)
          (λ i. settle_ok R p p1 V C S (remember (join m) (still μ)) (record {
            last = f.last;
            busy = λ b. let a = f.busy b in let good' = ack_good m.kind m (and_parts (is_confirming μ.phase) (is_ack m.kind) i).1 good in record {
              stand = a.stand;
              offers = a.offers;
              voters = λ j. at_set (λ j b. b ≡ true → (w : ℕ) × V (suc j) w μ.round) μ.acknowledgers (m.sender - 1) j true false
                  (λ _. (good'.0, rw (suc_less m.sender from, ← same) good'.1)) (a.voters j);
              role = a.role;
            };
          }))
          (λ _. cond_both (is_waiting μ.phase && is_new_estimate m.kind && eqb m.sender c) (accept p m (still μ)) (still μ) (Goes R V C p)
          (λ i. let j = and_parts (is_waiting μ.phase && is_new_estimate m.kind) (eqb m.sender c) i in
          let k = and_parts (is_waiting μ.phase) (is_new_estimate m.kind) j.0 in
          accept_ok μ m k.0 (eqb-true m.sender c j.1) (rw same at (new_estimate_good m.kind m k.1 good)) f)
          (λ _. f)))

      heed_ok : (μ : Memory) (m : Message) → 1 ≤ m.sender → Good R V C m → Fine R V C p μ → Goes R V C p (heed R.size p R.enough m (still μ))
      heed_ok μ m from good f =
          let f' : Fine R V C p (hear m μ) = record { last = f.last; busy = f.busy } in
          cond_both (eqb m.round μ.round) (meet R.size p R.enough m (still (hear m μ))) (still (hear m μ)) (Goes R V C p)
          (λ i. meet_ok (hear m μ) m from (eqb-true m.round μ.round i) good f')
          (λ _. f')

      reply_ok : (μ : Memory) (m : Message) (o : Option Content) → C p 4 ≡ o → Fine R V C p μ → Goes R V C p (reply p o m (still μ))
      reply_ok μ m None e f = f
      reply_ok μ m (Some d) e f = cond_both (is_decide m.kind) (still μ) (post (addressed (decide p d.number) m.sender) (still μ)) (Goes R V C p)
          (λ _. f) (λ _. (S.settled p d.number (rw e refl), λ S' g. f))

      learn_ok : (μ : Memory) (m : Message) → Chosen R V m.reading → Fine R V C p μ → Goes R V C p (learn m (still μ))
      learn_ok μ m c f = (
        c,
        λ S' g. record { last = lasting_grows R g μ.last f.last; busy = λ b. absurd b },
      )

      deliver_ok : (μ : Memory) (m : Message) → 1 ≤ m.sender → Good R V C m → Fine R V C p μ → Goes R V C p (deliver R.size p R.enough (C p 4) m (still μ))
      unfolding deliver
      deliver_ok μ m from good f =
          cond_both (is_done μ.phase) (reply p (C p 4) m (still μ)) _ (Goes R V C p)
          (λ _. reply_ok μ m (C p 4) refl f)
          (λ _. cond_both (is_decide m.kind) (learn m (still μ)) (heed R.size p R.enough m (still μ)) (Goes R V C p)
          (λ i. learn_ok μ m (decide_good m.kind m i good) f)
          (λ _. heed_ok μ m from good f))

-- the rule of a state
abbrev pub rule_of : State → Rule
rule_of s = record { size = s.size; enough = s.enough }

-- between calls
pub record Holding (R : Rule) (V : Votes) (s : State) : Type 0 where
  pub sound : Sound R V s.cells
  pub tray : AllByRecursion (Good R V s.cells) s.box
  pub fine : (i : ℕ) (μ : Memory) → get_or s.statuses i Down ≡ Up μ → Fine R V s.cells (suc i) μ

module _ (V : Votes) (s : State) (H : Holding (rule_of s) V s) where
  abbrev R : Rule
  R = rule_of s

  abbrev C : Cells
  C = s.cells

  -- a process of the panel
  of_member : (p : ℕ) → member s p ≡ true → 1 ≤ p
  of_member p i = (within 1 s.size p i).0

  fine_at : (p : ℕ) (μ : Memory) → 1 ≤ p → status s p ≡ Up μ → Fine R V C p μ
  fine_at p μ p1 e = rw (suc_less p p1) at (H.fine (p - 1) μ e)

  crash_at_ok : (o : Status) (p : ℕ) → Okay R V C (crash_at o p)
  crash_at_ok Down p = tt
  crash_at_ok (Up μ) p = tt

  again_at_ok : (o : Status) (p : ℕ) (cut : Option ℕ) → 1 ≤ p → status s p ≡ o → Okay R V C (again_at o p cut)
  again_at_ok Down p cut p1 e = tt
  again_at_ok (Up μ) p cut p1 e =
      need_ok R V C H.sound (not (is_done μ.phase)) ProcessDone _ λ _. need_ok R V C H.sound (not (is_idle μ.phase)) ProcessIdle _ λ _.
      let f = fine_at p μ p1 e in (p1, repeats_ok R p (λ W D. Fine R W D p μ) μ.last f.last f)

  propose_at_ok : (o : Status) (p v : ℕ) (cut : Option ℕ) → 1 ≤ p → status s p ≡ o → Okay R V C (propose_at o p v cut s)
  propose_at_ok Down p v cut p1 e = tt
  propose_at_ok (Up μ) p v cut p1 e =
      need_ok R V C H.sound (not (is_done μ.phase)) ProcessDone _ λ _.
      need_ok R V C H.sound (not (is_some (C p 1))) AlreadyProposed _ λ i.
      need_ok R V C H.sound (is_reading v) NotAReading _ λ _.
      (p1, propose_ok R V C H.sound p p1 v μ (fine_at p μ p1 e) (none_of (C p 1) i))

  recover_at_ok : (o : Status) (p : ℕ) (cut : Option ℕ) → 1 ≤ p → Okay R V C (recover_at o p cut s)
  recover_at_ok (Up μ) p cut p1 = tt
  recover_at_ok Down p cut p1 = (p1, recover_ok R V C H.sound p p1 (own s p) refl refl refl)

  look_ok : (p : ℕ) (list : List (Option ℕ)) (μ : Memory) (cut : Option ℕ) → 1 ≤ p → T (is_active μ.phase) → Fine R V C p μ → Okay R V C (if_step p cut (look s.size p s.enough list μ))
  unfolding look
  look_ok p list μ cut p1 busy f =
      let now = epoch_of list (coordinator s.size μ.round) in
      let P : Result Step NoRound → Type 0 = λ o. Okay R V C (if_step p cut o) in
      cond_both (trusts_some list) _ (Ok (still μ)) P
      (λ _. cond_both (must_leave now μ) (go_on s.size p s.enough μ (next_round s.size list μ)) (Ok (still (note now μ))) P
      (λ _. goes (next_round s.size list μ) refl) (λ _. (p1, record { last = f.last; busy = f.busy })))
      (λ _. (p1, f))
    where
      goes : (o : Option ℕ) → next_round s.size list μ ≡ o → Okay R V C (if_step p cut (go_on s.size p s.enough μ o))
      goes None e = tt
      goes (Some r) e =
          let may = next_fits s.size list μ r e in
          let above = ltb-true μ.round r (and_parts (ltb μ.round r) (leb μ.heard r) (and_parts (ltb μ.round r && leb μ.heard r) (leb r 999999)
          (and_parts (ltb μ.round r && leb μ.heard r && leb r 999999) (is_some (epoch_of list (coordinator s.size r))) may).0).0).0 in
          (p1, climb_ok R V C H.sound p p1 r μ busy f (omega arith))

  look_at_ok : (o : Status) (p : ℕ) (list : List (Option ℕ)) (cut : Option ℕ) → 1 ≤ p → status s p ≡ o → Okay R V C (look_at o p list cut s)
  look_at_ok Down p list cut p1 e = tt
  look_at_ok (Up μ) p list cut p1 e =
      need_ok R V C H.sound (not (is_done μ.phase)) ProcessDone _ λ i. need_ok R V C H.sound (not (is_idle μ.phase)) ProcessIdle _ λ j.
      need_ok R V C H.sound (eqb (length list) s.size && epochs_fit list) WrongList _ λ _.
      look_ok p list μ cut p1 (busy_phase R V C H.sound μ.phase i j) (fine_at p μ p1 e)

  deliver_at_ok : (o : Status) (m : Message) (cut : Option ℕ) → 1 ≤ m.sender → 1 ≤ m.addressee → Good R V C m → status s m.addressee ≡ o → Okay R V C (deliver_at o m cut s)
  deliver_at_ok Down m cut from p1 good e = tt
  deliver_at_ok (Up μ) m cut from p1 good e =
      need_ok R V C H.sound (not (early m μ)) EarlyAck _ λ _.
      (p1, deliver_ok R V C H.sound m.addressee p1 μ m from good (fine_at m.addressee μ p1 e))

  deliver_it_ok : (o : Option Message) (i : ℕ) (cut : Option ℕ) → element s.box i ≡ o → Okay R V C (deliver_it o cut s)
  deliver_it_ok None i cut e = tt
  deliver_it_ok (Some m) i cut e =
      need_ok R V C H.sound (well_formed s.size m) NoMessage _ λ j.
      let (from, to, high) = ends_of s.size m j in
      deliver_at_ok (status s m.addressee) m cut from to (of_place (Good R V C) i s.box m H.tray e) refl

  -- a call of a process: the cut and the process are tested first
  by_member : (p : ℕ) (cut : Option ℕ) (v : Verdict) → (1 ≤ p → Okay R V C v) → Okay R V C (need (cut_fits cut) CutTooLarge (need (member s p) NoSuchProcess v))
  by_member p cut v h = need_ok R V C H.sound (cut_fits cut) CutTooLarge _ λ _. need_ok R V C H.sound (member s p) NoSuchProcess v λ i. h (of_member p i)

  pub verdict_ok : (c : PanelCall) → Okay R V C (verdict c s)
  verdict_ok (Propose p v cut) = by_member p cut (propose_at (status s p) p v cut s) (λ a. propose_at_ok (status s p) p v cut a refl)
  verdict_ok (Recover p cut) = by_member p cut (recover_at (status s p) p cut s) (λ a. recover_at_ok (status s p) p cut a)
  verdict_ok (Look p list cut) = by_member p cut (look_at (status s p) p list.now cut s) (λ a. look_at_ok (status s p) p list.now cut a refl)
  verdict_ok (Deliver i cut) = need_ok R V C H.sound (cut_fits cut) CutTooLarge _ λ _. deliver_it_ok (element s.box i) i cut refl
  verdict_ok (Again p cut) = by_member p cut (again_at (status s p) p cut) (λ a. again_at_ok (status s p) p cut a refl)
  verdict_ok (Lose i) = need_ok R V C H.sound (is_some (element s.box i)) NoMessage (Verdict.drop_message i) λ _. tt
  verdict_ok (Crash p) = need_ok R V C H.sound (member s p) NoSuchProcess _ λ _. crash_at_ok (status s p) p
