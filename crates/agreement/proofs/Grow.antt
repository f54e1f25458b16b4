-- What growing keeps.
use Rattle.std.proofs.Common.{◌≡◌, ℕ, suc, Bool, cond, eqb, List, Option, inl, inr, ⊎_elim, le_trans, le_refl, arith}
use Rattle.std.proofs.lemmas.Bool.{eqb-true, eqb-false, cond_both}
use Rattle.store.specs.Cells.{Cells}
use Rattle.process.specs.declared.message.Kind.{Kind}
use Rattle.process.specs.declared.message.Message.{Message}
use Rattle.tray.specs.declared.kinds.Estimate.{Estimate}
use Rattle.process.specs.declared.memory.Memory.{Memory}
use Rattle.agreement.proofs.Facts.{Rule, Votes, rnd, Known, Grows, Offer, coord, Safe, Chosen, GoodAs, Good, Offers, Voters, Lasting, Fine}

pub grows_refl : (V : Votes) (C : Cells) → Grows V C V C
grows_refl V C = record { votes = λ q v s h. h; rounds = λ q. le_refl (rnd C q); newer = λ q v s h. inl h; proposals = λ q v h. h }

pub grows_trans : {V W X : Votes} {C D E : Cells} → Grows V C W D → Grows W D X E → Grows V C X E
grows_trans g h = record {
  votes = λ q v s a. h.votes q v s (g.votes q v s a);
  rounds = λ q. le_trans (g.rounds q) (h.rounds q);
  newer = λ q v s a. ⊎_elim (λ b. g.newer q v s b) (λ b. inr (le_trans (g.rounds q) b)) (h.newer q v s a);
  proposals = λ q v a. h.proposals q v (g.proposals q v a);
}

pub known_grows : {V W : Votes} {C D : Cells} → Grows V C W D → (v : ℕ) → Known C v → Known D v
known_grows g v k = (k.0, g.proposals k.0 v k.1)

pub offer_grows : {V W : Votes} {C D : Cells} → Grows V C W D → (q r v s : ℕ) → Offer V C q r v s → Offer W D q r v s
offer_grows {V} {W} {C} {D} g q r v s o = record {
  early = o.early;
  cast = ⊎_elim (λ z. inl z) (λ a. inr (g.votes q v s a)) o.cast;
  gap = λ w u a. ⊎_elim (λ b. o.gap w u b) (λ b. inr (le_trans o.reached b)) (g.newer q w u a);
  reached = le_trans o.reached (g.rounds q);
  known = known_grows g v o.known;
}

module _ (R : Rule) where
  pub safe_grows : {V W : Votes} {C D : Cells} → Grows V C W D → (v r : ℕ) → Safe R V C v r → Safe R W D v r
  safe_grows {V} {W} {C} {D} g v r s = record {
    quorum = s.quorum;
    full = s.full;
    past = λ k i. le_trans (s.past k i) (g.rounds (suc k));
    agree = λ k w i a. ⊎_elim (λ b. s.agree k w i b) (λ b. absurd (omega (arith, s.past k i))) (g.newer (suc k) w r a);
  }

  pub chosen_grows : {V W : Votes} → ((q v s : ℕ) → V q v s → W q v s) → (v : ℕ) → Chosen R V v → Chosen R W v
  chosen_grows g v c = record {
    stamp = c.stamp;
    quorum = c.quorum;
    full = c.full;
    voted = λ k i. ((c.voted k i).0, g (suc k) (c.voted k i).0 c.stamp (c.voted k i).1);
    voter = c.voter;
    vote = g c.voter v c.stamp c.vote;
  }

  good_as_grows : {V W : Votes} {C D : Cells} → Grows V C W D → (k : Kind) (m : Message) → GoodAs R V C k m → GoodAs R W D k m
  good_as_grows g Kind.NewRound m h = tt
  good_as_grows g Kind.Estimate m h = offer_grows g m.sender m.round m.reading m.stamp h
  good_as_grows g Kind.NewEstimate m h = g.votes (coord R m.round) m.reading m.round h
  good_as_grows g Kind.Ack m h = (h.0, g.votes m.sender h.0 m.round h.1)
  good_as_grows g Kind.Decide m h = chosen_grows g.votes m.reading h

  pub good_grows : {V W : Votes} {C D : Cells} → Grows V C W D → (m : Message) → Good R V C m → Good R W D m
  good_grows g m h = good_as_grows g m.kind m h

  pub lasting_grows : {V W : Votes} {C D : Cells} → Grows V C W D → (last : List (Option Message)) → Lasting R V C last → Lasting R W D last
  lasting_grows g last h q m e = good_grows g m (h q m e)

  pub offers_grow : {V W : Votes} {C D : Cells} → Grows V C W D → (r : ℕ) (es : List (Option Estimate)) → Offers R V C r es → Offers R W D r es
  offers_grow g r es h i e k = offer_grows g (suc i) r e.reading e.stamp (h i e k)

  pub voters_grow : {V W : Votes} → ((q v s : ℕ) → V q v s → W q v s) → (r : ℕ) (qs : List Bool) → Voters R V r qs → Voters R W r qs
  voters_grow g r qs h i k = ((h i k).0, g (suc i) (h i k).0 r (h i k).1)

  -- a process that does nothing itself stays fine
  pub fine_grows : {V W : Votes} {C D : Cells} → Grows V C W D → (q : ℕ) (μ : Memory)
      → ((v s : ℕ) → W q v s → V q v s) → D q 2 ≡ C q 2 → Fine R V C q μ → Fine R W D q μ
  fine_grows {V} {W} {C} {D} g q μ back same f = record {
    last = λ p m e. good_grows g m (f.last p m e);
    busy = λ b. let a = f.busy b in let s = a.stand in record {
      stand = record {
        round = rw same s.round;
        least = s.least;
        cast = ⊎_elim (λ z. inl z) (λ c. inr (g.votes q μ.reading μ.stamp c)) s.cast;
        top = λ v s' c. s.top v s' (back v s' c);
        known = known_grows g μ.reading s.known;
      };
      offers = offers_grow g μ.round μ.kept a.offers;
      voters = voters_grow g.votes μ.round μ.acknowledgers a.voters;
      role = a.role;
    };
  }

-- a cell after a write: that of p, or as before
pub at_cell : {A : Type 0} (P : A → Type 0) (q p : ℕ) (x y : A) → (q ≡ p → P x) → ((q ≡ p → ⊥) → P y) → P (cond (eqb q p) x y)
at_cell P q p x y f g = cond_both (eqb q p) x y P (λ e. f (eqb-true q p e)) (λ e. g (eqb-false q p e))
