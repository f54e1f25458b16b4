-- Each action that may be done keeps what holds of votes and cells.
use Rattle.std.proofs.Common.{◌≡◌, ℕ, ◌≤◌, ◌&&◌, eqb, Some, None, sym, refl, ◌∙◌, inl, inr, ⊎_elim, le_trans, le_of_eq, le_refl}
use Rattle.std.proofs.lemmas.Bool.{and_right, ne_eqb, cond-false}
use Rattle.store.specs.declared.content.Content.{Content}
use Rattle.store.specs.Cells.{Cells, put}
use Rattle.process.specs.declared.memory.Action.{Action}
use Rattle.process.specs.declared.memory.Action.TheVariants.{Write, Send}
use Rattle.agreement.specs.Promise.{Holds, Marked}
use Rattle.agreement.proofs.Facts.{Rule, Votes, plus, number_in, stamp_in, rnd, Grows, coord, Chosen, Sound, MayEnter, MayVote, MayWrite, May, votes_by, votes_after, cells_after}
use Rattle.agreement.proofs.Grow.{grows_refl, known_grows, safe_grows, chosen_grows, at_cell}
use Rattle.store.specs.declared.content.CellName.{CellName}
use Rattle.store.specs.CellNames.{cell_number}

module _ (R : Rule) (V : Votes) (C : Cells) (p : ℕ) (x : Content) where
  -- the proposal
  grows_proposal : C p 1 ≡ None → Grows V C V (put C p 1 x)
  grows_proposal m = record {
    votes = λ q v s h. h;
    rounds = λ q. le_refl (rnd C q);
    newer = λ q v s h. inl h;
    proposals = λ q v. at_cell (λ o. Holds (C q 1) v → Holds o v) q p (Some x) (C q 1)
        (λ e h. absurd (rw (e, m) at h)) (λ e h. h);
  }

  sound_proposal : Sound R V C → C p 1 ≡ None → Sound R V (put C p 1 x)
  sound_proposal S m = let g = grows_proposal m in record {
    own = S.own;
    one = S.one;
    least = S.least;
    shown = S.shown;
    top = S.top;
    bound = S.bound;
    safe = λ q v s u a h. safe_grows R g v u (S.safe q v s u a h);
    known = λ q v s a. known_grows g v (S.known q v s a);
    settled = S.settled;
    silent = λ q. at_cell (λ o. o ≡ None → rnd C q ≡ 0) q p (Some x) (C q 1) (λ e h. rw e (S.silent p m)) (λ e h. S.silent q h);
    rounds = S.rounds;
  }

  -- the round
  grows_round : MayEnter R C p x.number → Grows V C V (put C p 2 x)
  grows_round m = record {
    votes = λ q v s h. h;
    rounds = λ q. at_cell (λ o. rnd C q ≤ number_in o) q p (Some x) (C q 2) (λ e. rw e m.up) (λ e. le_refl (rnd C q));
    newer = λ q v s h. inl h;
    proposals = λ q v h. h;
  }

  sound_round : Sound R V C → MayEnter R C p x.number → Sound R V (put C p 2 x)
  sound_round S m = let g = grows_round m in record {
    own = S.own;
    one = S.one;
    least = S.least;
    shown = S.shown;
    top = S.top;
    bound = λ q v s a. le_trans (S.bound q v s a) (g.rounds q);
    safe = λ q v s u a h. safe_grows R g v u (S.safe q v s u a h);
    known = S.known;
    settled = S.settled;
    silent = λ q h. at_cell (λ o. number_in o ≡ 0) q p (Some x) (C q 2) (λ e. absurd (m.has (rw e at h))) (λ e. S.silent q h);
    rounds = λ q r. at_cell (λ o. Holds o r → 1 ≤ r) q p (Some x) (C q 2) (λ e h. rw h at m.least) (λ e h. S.rounds q r h);
  }

  -- the decision
  grows_decision : Grows V C V (put C p 4 x)
  grows_decision = record { votes = λ q v s h. h; rounds = λ q. le_refl (rnd C q); newer = λ q v s h. inl h; proposals = λ q v h. h }

  sound_decision : Sound R V C → Chosen R V x.number → Sound R V (put C p 4 x)
  sound_decision S m = let g = grows_decision in record {
    own = S.own;
    one = S.one;
    least = S.least;
    shown = S.shown;
    top = S.top;
    bound = S.bound;
    safe = λ q v s u a h. safe_grows R g v u (S.safe q v s u a h);
    known = S.known;
    settled = λ q v. at_cell (λ o. Holds o v → Chosen R V v) q p (Some x) (C q 4) (λ e h. rw h at m) (λ e h. S.settled q v h);
    silent = S.silent;
    rounds = S.rounds;
  }

  -- the pair: a vote
  grows_pair : MayVote R V C p x.number x.stamp → Grows V C (plus V p x.number x.stamp) (put C p 3 x)
  grows_pair m = record {
    votes = λ q v s h. inl h;
    rounds = λ q. le_refl (rnd C q);
    newer = λ q v s. ⊎_elim (λ h. inl h) (λ h. inr (rw (h.0, h.2) (le_of_eq m.here)));
    proposals = λ q v h. h;
  }

  sound_pair : Sound R V C → MayVote R V C p x.number x.stamp → Sound R (plus V p x.number x.stamp) (put C p 3 x)
  sound_pair S m = let g = grows_pair m in record {
    own = λ q v s. ⊎_elim (λ h. inl (S.own q v s h))
        (λ h. ⊎_elim (λ (b : V (coord R x.stamp) x.number x.stamp). inl (rw (h.1, h.2) b)) (λ b. inr (rw (h.2, b.0) refl, h.1, h.2)) m.backed);
    one = λ q₁ q₂ v w s a b. ⊎_elim
        (λ h. ⊎_elim (λ k. S.one q₁ q₂ v w s h k) (λ k. rw k.1 (alone q₁ v (rw k.2 at h))) b)
        (λ h. ⊎_elim (λ k. rw h.1 (sym (alone q₂ w (rw h.2 at k)))) (λ k. h.1 ∙ sym k.1) b) a;
    least = λ q v s. ⊎_elim (λ h. S.least q v s h) (λ h. rw h.2 m.least);
    shown = λ q v s. at_cell (λ o. Marked o v s → plus V p x.number x.stamp q v s) q p (Some x) (C q 3)
        (λ e h. inr (e, sym h.0, sym h.1)) (λ e h. inl (S.shown q v s h));
    top = λ q v s a. at_cell (λ o. s ≤ stamp_in o) q p (Some x) (C q 3)
        (λ e. ⊎_elim (λ h. rw (← m.here, ← e) (S.bound q v s h)) (λ h. le_of_eq h.2) a)
        (λ e. ⊎_elim (λ h. S.top q v s h) (λ h. absurd (e h.0)) a);
    bound = λ q v s. ⊎_elim (λ h. S.bound q v s h) (λ h. rw (h.0, h.2) (le_of_eq (sym m.here)));
    safe = λ q v s u a h. safe_grows R g v u
        (⊎_elim (λ b. S.safe q v s u b h) (λ b. rw b.1 (m.safe u (rw b.2 at h))) a);
    known = λ q v s. ⊎_elim (λ h. S.known q v s h) (λ h. rw h.1 m.known);
    settled = λ q v h. chosen_grows R g.votes v (S.settled q v h);
    silent = S.silent;
    rounds = S.rounds;
  }
    where
      -- a vote of this stamp has this reading
      alone : (q v : ℕ) → V q v x.stamp → v ≡ x.number
      alone q v a = ⊎_elim (λ b. S.one q (coord R x.stamp) v x.number x.stamp a b) (λ b. absurd (b.1 q v a)) m.backed

module _ (R : Rule) (V : Votes) (C : Cells) (p : ℕ) where
  grows_write : (x : Content) (c : CellName) → MayWrite R V C p x c → Grows V C (votes_by R c V p x) (put C p (cell_number c) x)
  grows_write x CellName.Proposal m = grows_proposal R V C p x m
  grows_write x CellName.Round m = grows_round R V C p x m
  grows_write x CellName.Pair m = grows_pair R V C p x m
  grows_write x CellName.Decision m = grows_decision R V C p x

  pub grows_act : (a : Action) → May R V C p a → Grows V C (votes_after R V p a) (cells_after R C p a)
  grows_act (Write c x) m = grows_write x c m
  grows_act (Send k) m = grows_refl V C

  sound_write : (x : Content) (c : CellName) → Sound R V C → MayWrite R V C p x c → Sound R (votes_by R c V p x) (put C p (cell_number c) x)
  sound_write x CellName.Proposal S m = sound_proposal R V C p x S m
  sound_write x CellName.Round S m = sound_round R V C p x S m
  sound_write x CellName.Pair S m = sound_pair R V C p x S m
  sound_write x CellName.Decision S m = sound_decision R V C p x S m

  pub sound_act : (a : Action) → Sound R V C → May R V C p a → Sound R (votes_after R V p a) (cells_after R C p a)
  sound_act (Write c x) S m = sound_write x c S m
  sound_act (Send k) S m = S

  -- an action of p casts no vote of another, and leaves another's round
  apart_by : (x : Content) (c : CellName) (q : ℕ) → (q ≡ p → ⊥) → (v s : ℕ) → votes_by R c V p x q v s → V q v s
  apart_by x CellName.Proposal q e v s h = h
  apart_by x CellName.Round q e v s h = h
  apart_by x CellName.Pair q e v s h = ⊎_elim (λ k. k) (λ k. absurd (e k.0)) h
  apart_by x CellName.Decision q e v s h = h

  pub vote_apart : (a : Action) (q : ℕ) → (q ≡ p → ⊥) → (v s : ℕ) → votes_after R V p a q v s → V q v s
  vote_apart (Write c x) q e v s h = apart_by x c q e v s h
  vote_apart (Send k) q e v s h = h

  pub round_apart : (a : Action) (q : ℕ) → (q ≡ p → ⊥) → cells_after R C p a q 2 ≡ C q 2
  round_apart (Write c x) q e = cond-false (eqb 2 (cell_number c) && eqb q p) (Some x) (C q 2) (and_right (eqb 2 (cell_number c)) (eqb q p) (ne_eqb q p e))
  round_apart (Send k) q e = refl
