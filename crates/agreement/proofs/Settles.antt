-- Settle and Enter: their actions may be done, and leave the memory fine.
use Rattle.std.proofs.Common.{◌≡◌, ℕ, suc, ◌-◌, ◌<◌, ◌≤◌, true, false, cond, eqb, ◌⊎◌, List, [], ◌∷◌, set, replicate, Some, None, Option, sym, refl, subst, inl, inr, ⊎_elim, le_trans, le_of_eq, arith}
use Rattle.std.proofs.lemmas.Bool.{cond_both, eqb-true, eqb-false, cases_lt}
use Rattle.quorum.specs.Laws.{has}
use Rattle.store.specs.Cells.{Cells}
use Rattle.process.specs.declared.memory.Action.TheVariants.{Write, Send}
use Rattle.tray.specs.declared.kinds.Estimate.{Estimate}
use Rattle.process.specs.declared.memory.Memory.{Memory}
use Rattle.process.specs.declared.memory.Phase.{Phase}
use Rattle.process.specs.Rounds.{Step, ack, addressed, begin, best_kept, chosen, choose, conclude, confirm, confirmed, decide, enter, entered, estimate, follow, gather, gathered, in_phase, lead, new_estimate, new_round, only, propound, remember, send, senders, settle, to_all, write}
use Rattle.process.specs.Phases.{is_confirming, is_gathering}
use Rattle.process.proofs.Stages.{gathering_active, confirming_active}
use Rattle.agreement.proofs.Facts.{Rule, Votes, plus, number_in, Known, Offer, coord, Safe, Chosen, Sound, MayEnter, MayVote, Stand, Role, Offers, Voters, Lasting, Fine, Run, Goes}
use Rattle.agreement.proofs.Grow.{at_cell, known_grows, offers_grow, lasting_grows}
use Rattle.agreement.proofs.Plans.{at_set, at_replicate, suc_less, run_weaker, run_then, noted_good, to_all_runs, to_all_ok}
use Rattle.agreement.proofs.Bests.{kept_in, Below, kept_above, sender_at}
use Rattle.store.specs.declared.content.CellName.TheVariants as CellName

module _ (R : Rule) (p : ℕ) where
  gather_role : (f : Phase) (r t : ℕ) → is_gathering f ≡ true → Role R p f r t → (p ≡ coord R r) × (t < r)
  gather_role Phase.Idle r t i h = cc
  gather_role Phase.Waiting r t i h = cc
  gather_role Phase.Acked r t i h = cc
  gather_role Phase.Gathering r t i h = h
  gather_role Phase.Confirming r t i h = cc
  gather_role Phase.Done r t i h = cc

  confirm_role : (f : Phase) (r t : ℕ) → is_confirming f ≡ true → Role R p f r t → (p ≡ coord R r) × (t ≡ r)
  confirm_role Phase.Idle r t i h = cc
  confirm_role Phase.Waiting r t i h = cc
  confirm_role Phase.Acked r t i h = cc
  confirm_role Phase.Gathering r t i h = cc
  confirm_role Phase.Confirming r t i h = h
  confirm_role Phase.Done r t i h = cc

  -- p alone has voted, or offered, at the place of p; and nobody has
  only_voter : (r w : ℕ) (W : Votes) → 1 ≤ p → W p w r → Voters R W r (only p)
  only_voter r w W l a i =
      at_set (λ j b. b ≡ true → (w : ℕ) × W (suc j) w r) (replicate 9 false) (p - 1) i true false
      (λ _. (w, rw (suc_less p l) a)) (λ b. cc (at_replicate 9 i false))

  no_voter : (r : ℕ) (W : Votes) → Voters R W r (replicate 9 false)
  no_voter r W i b = cc (at_replicate 9 i false)

  no_offer : (r : ℕ) (W : Votes) (D : Cells) → Offers R W D r (replicate 9 None)
  no_offer r W D i e k = cc (at_replicate {A = Option Estimate} 9 i None)

  pub put_offer : (r : ℕ) (W : Votes) (D : Cells) (kept : List (Option Estimate)) (q : ℕ) (h : Estimate) → 1 ≤ q → Offers R W D r kept → Offer W D q r h.reading h.stamp
      → Offers R W D r (set kept (q - 1) (Some h))
  put_offer r W D kept q h l os o i e =
      at_set (λ j k. k ≡ Some e → Offer W D (suc j) r e.reading e.stamp) kept (q - 1) i (Some h) None
      (λ k. let z : h ≡ e = cc in subst (λ (x : Estimate). Offer W D (suc (q - 1)) r x.reading x.stamp) z (rw (suc_less q l) o)) (os i e)

  module _ (V : Votes) (C : Cells) where
    -- at a stamp that is the round's, the vote is cast
    cast_at : (r e t : ℕ) → Stand R V C p r e t → t ≡ r → V p e r
    cast_at r e t s q = ⊎_elim (λ z. absurd (omega (arith, s.least))) (λ h. rw q at h) s.cast

    -- enough acknowledgers: the reading is chosen
    concluded : (μ : Memory) → is_confirming μ.phase ≡ true → R.enough μ.acknowledgers ≡ true → Fine R V C p μ → Chosen R V μ.reading
    concluded μ i q f =
        let a = f.busy (rw (confirming_active μ.phase i) tt) in
        let ro = confirm_role μ.phase μ.round μ.stamp i a.role in
        record {
          stamp = μ.round;
          quorum = μ.acknowledgers;
          full = q;
          voted = a.voters;
          voter = p;
          vote = cast_at μ.round μ.reading μ.stamp a.stand ro.1;
        }

    Owned : ℕ → Estimate → Type 0
    Owned r e = (q : ℕ) × Offer V C q r e.reading e.stamp

    -- the best of enough offers is safe at every stamp below the round
    choice_safe : (r : ℕ) (kept : List (Option Estimate)) (b : Estimate) → best_kept kept ≡ Some b → Sound R V C → R.enough (senders kept) ≡ true
        → Offers R V C r kept → Owned r b → (u : ℕ) → u < r → Safe R V C b.reading u
    unfolding Owned
    choice_safe r kept b is S q os own u h =
        let ob = own.1 in
        let from : (k : ℕ) → has (senders kept) k ≡ true → (v : ℕ) × (s : ℕ) × (Offer V C (suc k) r v s × (s ≤ b.stamp))
        = λ k i. let x = sender_at kept k i in
        (x.0.reading, x.0.stamp, (os k x.0 x.1, subst (λ (o : Option Estimate). Below o b) x.1 (kept_above kept b is k))) in
        ⊎_elim
        (λ (l : u < b.stamp). ⊎_elim (λ z. absurd (omega arith)) (λ a. S.safe own.0 b.reading b.stamp u a l) ob.cast)
        (λ (l : b.stamp ≤ u). record {
          quorum = senders kept;
          full = q;
          past = λ k i. le_trans h (from k i).2.0.reached;
          agree = λ k w i a. ⊎_elim
              (λ c. let d = (from k i).2.1 in
              let same : u ≡ b.stamp = omega arith in
              ⊎_elim (λ z. absurd (omega (arith, S.least (suc k) w u a))) (λ v. S.one (suc k) own.0 w b.reading b.stamp (rw same at a) v) ob.cast)
              (λ c. absurd (omega arith))
              ((from k i).2.0.gap w u a);
        })
        (cases_lt u b.stamp)

    -- the choice may be voted for
    chosen_may : (μ : Memory) (b : Estimate) → best_kept μ.kept ≡ Some b → is_gathering μ.phase ≡ true → R.enough (senders μ.kept) ≡ true
        → Sound R V C → Fine R V C p μ → MayVote R V C p b.reading μ.round
    unfolding Owned
    chosen_may μ b is i q S f =
        let r = μ.round in
        let a = f.busy (rw (gathering_active μ.phase i) tt) in
        let ro = gather_role μ.phase r μ.stamp i a.role in
        let owned : Owned r b = kept_in (Owned r) μ.kept (λ k e n. (suc k, a.offers k e n)) b is in
        record {
          here = a.stand.round;
          least = a.stand.least;
          known = owned.1.known;
          backed = inr (
            ro.0,
            λ k w c. let own : V p w r = rw (← ro.0) at (S.own k w r c) in
                omega (arith, a.stand.top w r own, ro.1),
          );
          safe = choice_safe r μ.kept b is S q a.offers owned;
        }

  module _ (p1 : 1 ≤ p) (V : Votes) (C : Cells) (S : Sound R V C) where
    -- the decision
    conclude_ok : (s : Step) → is_confirming s.memory.phase ≡ true → R.enough s.memory.acknowledgers ≡ true → Goes R V C p s → Goes R V C p (conclude R.size p s)
    conclude_ok s i q h =
        let e = s.memory.reading in
        run_then R p _ (to_all R.size (decide p e) s).acts (Write CellName.Decision (record { number = e; stamp = 0 }) ∷ []) S
        (to_all_runs R p (λ W D. Unit {0}) R.size (decide p e) s S (run_weaker R p (λ W D S' f. (tt, f.last, λ q'. concluded W D s.memory i q f)) s.acts S h))
        (λ W D S' a. (
          a.2 0,
          λ S'' g. record { last = lasting_grows R g (to_all R.size (decide p e) s).memory.last a.1; busy = λ b. absurd b },
        ))

    confirmed_ok : (s : Step) → Goes R V C p s → Goes R V C p (confirmed R.size p R.enough s)
    confirmed_ok s h =
        cond_both (is_confirming s.memory.phase) (cond (R.enough s.memory.acknowledgers) (conclude R.size p s) s) s (Goes R V C p)
        (λ i. cond_both (R.enough s.memory.acknowledgers) (conclude R.size p s) s (Goes R V C p) (λ j. conclude_ok s i j h) (λ _. h))
        (λ _. h)

    -- the choice
    propound_ok : (s : Step) (b : Estimate) → best_kept s.memory.kept ≡ Some b → is_gathering s.memory.phase ≡ true → R.enough (senders s.memory.kept) ≡ true
        → Goes R V C p s → Goes R V C p (propound R.size p b.reading s)
    propound_ok s b is i q h =
        let μ = s.memory in
        let e = b.reading in
        let r = s.memory.round in
        to_all_ok R p (λ W D ν. Fine R W D p ν) R.size (new_estimate p r e) (write CellName.Pair e r (remember (choose p e) s)) S
        (run_then R p _ s.acts (Write CellName.Pair (record { number = e; stamp = r }) ∷ []) S h (λ W D S' f.
        let a = f.busy (rw (gathering_active μ.phase i) tt) in
        let ro = gather_role μ.phase r μ.stamp i a.role in
        let may = chosen_may W D μ b is i q S' f in (
          may,
          λ S'' g. (
            λ l ls. record {
              last = ls;
              busy = λ _. record {
                stand = record {
                  round = a.stand.round;
                  least = a.stand.least;
                  cast = inr (inr (refl, refl, refl));
                  top = λ v t c. rw a.stand.round at (S''.bound p v t c);
                  known = known_grows g e may.known;
                };
                offers = offers_grow R g r μ.kept a.offers;
                voters = only_voter r e (plus W p e r) p1 (inr (refl, refl, refl));
                role = (ro.0, refl);
              };
            },
            lasting_grows R g μ.last f.last,
            λ k. inr (sym ro.0, refl, refl),
          ),
        )))

    chosen_ok : (s : Step) (o : Option Estimate) → best_kept s.memory.kept ≡ o → is_gathering s.memory.phase ≡ true → R.enough (senders s.memory.kept) ≡ true
        → Goes R V C p s → Goes R V C p (chosen R.size p o s)
    chosen_ok s None is i q h = h
    chosen_ok s (Some b) is i q h = propound_ok s b is i q h

    gathered_ok : (s : Step) → Goes R V C p s → Goes R V C p (gathered R.size p R.enough s)
    gathered_ok s h =
        let best = best_kept s.memory.kept in
        cond_both (is_gathering s.memory.phase) (cond (R.enough (senders s.memory.kept)) (chosen R.size p best s) s) s (Goes R V C p)
        (λ i. cond_both (R.enough (senders s.memory.kept)) (chosen R.size p best s) s (Goes R V C p) (λ j. chosen_ok s best refl i j h) (λ _. h))
        (λ _. h)

    pub settle_ok : (s : Step) → Goes R V C p s → Goes R V C p (settle R.size p R.enough s)
    unfolding settle
    settle_ok s h = confirmed_ok (gathered R.size p R.enough s) (gathered_ok s h)

    -- the four ways into a round that is begun
    module _ (r : ℕ) (s : Step) where
      abbrev Begun : Votes → Cells → Type 0
      Begun W D = Stand R W D p r s.memory.reading s.memory.stamp × Lasting R W D s.memory.last

      offer : (W : Votes) (D : Cells) → Sound R W D → Begun W D → (s.memory.stamp ≡ r → ⊥) → Offer W D p r s.memory.reading s.memory.stamp
      offer W D S' (st, ls) ne = record {
        early = let l = st.least in let k = st.round in
            ⊎_elim (λ z. omega arith) (λ a. let b = S'.bound p s.memory.reading s.memory.stamp a in omega arith) st.cast;
        cast = st.cast;
        gap = λ w u a. inl (st.top w u a);
        reached = le_of_eq (sym st.round);
        known = st.known;
      }

      entered_ok : Run R Begun p (write CellName.Round r 0 (remember (begin r) s)).acts V C → Goes R V C p (entered R.size p R.enough r (write CellName.Round r 0 (remember (begin r) s)))
      entered_ok h =
          let n = R.size in
          let c = coord R r in
          let e = s.memory.reading in
          let t = s.memory.stamp in
          let u = write CellName.Round r 0 (remember (begin r) s) in
          cond_both (eqb p c) (settle n p R.enough (lead n p r u)) (follow p c r u) (Goes R V C p)
          (λ i. let pc = eqb-true p c i in
          settle_ok (lead n p r u) (cond_both (eqb t r) (to_all n (new_estimate p r e) (remember (confirm p) u)) (remember (gather p) (to_all n (new_round p r) u)) (Goes R V C p)
          (λ j. let same = eqb-true t r j in
          to_all_ok R p (λ W D ν. Fine R W D p ν) n (new_estimate p r e) (remember (confirm p) u) S
          (run_weaker R p (λ W D S' a. let v = cast_at W D r e t a.0 same in (
            λ l ls. record { last = ls; busy = λ _. record { stand = a.0; offers = no_offer r W D; voters = only_voter r e W p1 v; role = (pc, same) } },
            a.1,
            λ q. rw pc at v,
          )) u.acts S h))
          (λ j. let ne = eqb-false t r j in
          to_all_ok R p (λ W D ν. Fine R W D p (gather p ν)) n (new_round p r) u S
          (run_weaker R p (λ W D S' a. let o = offer W D S' a ne in (
            λ l ls. record { last = ls; busy = λ _. record { stand = a.0; offers = put_offer r W D (replicate 9 None) p (record { sender = p; reading = e; stamp = t }) p1 (no_offer r W D) o; voters = no_voter r W; role = (pc, o.early) } },
            a.1,
            λ q. tt,
          )) u.acts S h))))
          (λ i. cond_both (eqb t r) (remember (in_phase Phase.Acked) (send (addressed (ack p r) c) u)) (remember (in_phase Phase.Waiting) (send (addressed (estimate p r e t) c) u)) (Goes R V C p)
          (λ j. let same = eqb-true t r j in
          run_then R p _ u.acts (Send (addressed (ack p r) c) ∷ []) S h (λ W D S' a. let v = cast_at W D r e t a.0 same in (
            (e, v),
            λ S'' g. record { last = noted_good R p (addressed (ack p r) c) s.memory.last a.1 (e, v); busy = λ _. record { stand = a.0; offers = no_offer r W D; voters = no_voter r W; role = tt } },
          )))
          (λ j. let ne = eqb-false t r j in
          run_then R p _ u.acts (Send (addressed (estimate p r e t) c) ∷ []) S h (λ W D S' a. let o = offer W D S' a ne in (
            o,
            λ S'' g. record { last = noted_good R p (addressed (estimate p r e t) c) s.memory.last a.1 o; busy = λ _. record { stand = a.0; offers = no_offer r W D; voters = no_voter r W; role = tt } },
          ))))

      -- what entering asks
      abbrev pub Enters : Votes → Cells → Type 0
      Enters W D = MayEnter R D p r × ((s.memory.stamp ≡ 0) ⊎ W p s.memory.reading s.memory.stamp) × ((v t : ℕ) → W p v t → t ≤ s.memory.stamp) × Known D s.memory.reading × Lasting R W D s.memory.last

      pub enter_ok : Run R Enters p s.acts V C → Goes R V C p (enter R.size p R.enough r s)
      unfolding enter
      enter_ok h =
          entered_ok (run_then R p Begun s.acts (Write CellName.Round (record { number = r; stamp = 0 }) ∷ []) S h (λ W D S' a. (
            a.0,
            λ S'' g. (
              record {
                round = at_cell (λ o. number_in o ≡ r) p p (Some (record { number = r; stamp = 0 })) (D p 2) (λ _. refl) (λ e. absurd (e refl));
                least = a.0.least;
                cast = a.1;
                top = a.2;
                known = a.3;
              },
              lasting_grows R g s.memory.last a.4,
            ),
          )))
