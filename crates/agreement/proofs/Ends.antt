-- The promise.
use Rattle.std.proofs.Common.{◌≡◌, ℕ, suc, ◌<◌, ◌≤◌, Bool, true, List, [], ◌∷◌, sym, refl, inl, inr, ⊎_elim, arith}
use Rattle.std.specs.List.{AllByRecursion}
use Rattle.std.proofs.ByRecursion.{All-weaker}
use Rattle.std.proofs.lemmas.Bool.{cases_lt}
use Rattle.quorum.specs.Laws.{has, Shares}
use Rattle.store.specs.Cells.{Cells}
use Rattle.process.specs.declared.memory.Status.TheVariants.{Down}
use Rattle.agreement.specs.Worlds.{World}
use Rattle.agreement.specs.Calls.{run}
use Rattle.agreement.specs.Promise.{Ever, Bears, Settled, Agreed, Agreement, fresh}
use Rattle.agreement.proofs.Facts.{Rule, Votes, Chosen, Sound}
use Rattle.agreement.proofs.Plans.{at_replicate}
use Rattle.agreement.proofs.Verdicts.{Holding}
use Rattle.agreement.proofs.Runs.{Fits, ran}

-- what some element has, with what each has
of_some : {A : Type 0} {P Q : A → Type 0} {B : Type 0} → ((x : A) → P x → Q x → B) → (xs : List A) → AllByRecursion P xs → Ever Q xs → B
of_some f [] h i = absurd i
of_some f (x ∷ xs) h (inl i) = f x h.0 i
of_some f (x ∷ xs) h (inr i) = of_some f xs h.1 i

module _ (R : Rule) (shares : Shares R.size R.enough) (V : Votes) (C : Cells) (S : Sound R V C) where
  -- once there are enough votes of stamp r, every vote of stamp r or higher has its reading among those of stamp r
  meets : (r : ℕ) (Q : List Bool) → R.enough Q ≡ true → ((k : ℕ) → k < R.size → has Q k ≡ true → (w : ℕ) × V (suc k) w r)
      → (p v s : ℕ) → r ≤ s → V p v s → (o : ℕ) × V o v r
  meets r Q full voted p v s h b = ⊎_elim
      (λ (l : r < s).
      let safe = S.safe p v s r b l in
      let q = shares Q safe.quorum full safe.full in
      let c = voted q.0 q.1 q.2 in
      (suc q.0, rw (safe.agree q.0 c.0 q.3 c.1) at c.1))
      (λ (l : s ≤ r). let e : s ≡ r = omega arith in (p, rw e at b))
      (cases_lt r s)

  later_choice : (v w : ℕ) (c : Chosen R V v) (d : Chosen R V w) → c.stamp ≤ d.stamp → v ≡ w
  later_choice v w c d h =
      let m = meets c.stamp c.quorum c.full (λ k _ i. c.voted k i) d.voter w d.stamp h d.vote in
      S.one c.voter m.0 v w c.stamp c.vote m.1

  same_choice : (v w : ℕ) → Chosen R V v → Chosen R V w → v ≡ w
  same_choice v w c d = ⊎_elim
      (λ (l : c.stamp < d.stamp). later_choice v w c d (omega arith))
      (λ (l : d.stamp ≤ c.stamp). sym (later_choice w v d c l))
      (cases_lt c.stamp d.stamp)

  agreement : (seen : List World) → AllByRecursion (Fits R V) seen → Agreement R.size R.enough seen
  agreement seen fit = record {
    one_decision = λ v w a b. same_choice v w (settled v a) (settled w b);
    proposed = All-weaker _ _ (λ t f. f.traced) seen fit;
    held = λ r Q full voted p q v w s t hs ht a b.
        let votes : (k : ℕ) → k < R.size → has Q k ≡ true → (x : ℕ) × V (suc k) x r = λ k j l. ((voted k j l).0, borne (suc k) (voted k j l).0 r (voted k j l).1) in
        let m = meets r Q full votes p v s hs (borne p v s a) in
        let n = meets r Q full votes q w t ht (borne q w t b) in
        S.one m.0 n.0 v w r m.1 n.1;
  }
    where
      settled : (v : ℕ) → Ever (Settled v) seen → Chosen R V v
      settled v a = of_some (λ t (f : Fits R V t) i. f.chosen v i) seen fit a

      borne : (p v r : ℕ) → Ever (Bears p v r) seen → V p v r
      borne p v r a = of_some (λ t (f : Fits R V t) i. f.votes p v r i) seen fit a

no_votes : Votes
no_votes p v r = ⊥

start : (R : Rule) (places : ℕ) → Holding R no_votes (fresh R.size R.enough places)
unfolding no_votes
start R places = record {
  sound = record {
    own = λ q v s h. absurd h;
    one = λ p q v w s h. absurd h;
    least = λ q v s h. absurd h;
    shown = λ q v s h. absurd h;
    top = λ q v s h. absurd h;
    bound = λ q v s h. absurd h;
    safe = λ q v s u h. absurd h;
    known = λ q v s h. absurd h;
    settled = λ q v h. absurd h;
    silent = λ q e. refl;
    rounds = λ q r h. absurd h;
  };
  tray = tt;
  fine = λ i μ e. cc (at_replicate 9 i Down);
}

-- the promise, of every run of a fresh panel
pub promise : Agreed
promise n enough shares places calls =
    let R : Rule = record { size = n; enough = enough } in
    let s = fresh n enough places in
    let r = ran R calls no_votes s refl (start R places) in
    agreement R shares r.cast r.cells r.sound (run calls s) r.fit
