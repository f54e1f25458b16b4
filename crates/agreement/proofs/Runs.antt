-- All that is seen in a run fits the votes cast in it.
use Rattle.std.proofs.Common.{◌≡◌, ℕ, zero, suc, ◌-◌, ◌≤◌, min, ltb, List, [], ◌∷◌, ◌++◌, length, get_or, take, drop, set, Some, None, sym, refl, ap, ◌∙◌, subst, inl, inr, ⊎_elim, le_refl, arith}
use Rattle.std.specs.List.{AllByRecursion}
use Rattle.std.proofs.lemmas.List.{take_all}
use Rattle.std.proofs.lemmas.Bool.{cond_both}
use Rattle.store.specs.Cells.{Cells}
use Rattle.process.specs.declared.message.Kind.{Kind}
use Rattle.process.specs.declared.message.Message.{Message}
use Rattle.process.specs.declared.memory.Action.{Action}
use Rattle.process.specs.declared.memory.Action.TheVariants.{Write, Send}
use Rattle.process.specs.declared.memory.Memory.{Memory}
use Rattle.process.specs.declared.memory.Status.{Status}
use Rattle.process.specs.declared.memory.Status.TheVariants.{Up, Down}
use Rattle.agreement.specs.Lists.{PanelCall}
use Rattle.std.proofs.ByRecursion.{All-append, All-drop, All-take, All-weaker}
use Rattle.tray.specs.Items.{without}
use Rattle.agreement.specs.Worlds.{World, act, moments, performed}
use Rattle.agreement.specs.Calls.{State, Verdict, world, carried, shown, verdict, done, run}
use Rattle.agreement.specs.Promise.{Ever, Bears, Proposed, Decided, Settled}
use Rattle.agreement.proofs.Facts.{Rule, Votes, Grows, Chosen, GoodAs, Good, Sound, May, Fine, votes_after, cells_after, Run}
use Rattle.agreement.proofs.Grow.{grows_refl, grows_trans, chosen_grows, good_grows, fine_grows}
use Rattle.agreement.proofs.Acts.{grows_act, sound_act, vote_apart, round_apart}
use Rattle.agreement.proofs.Plans.{at_put, run_take}
use Rattle.agreement.proofs.Verdicts.{Okay, Holding, rule_of, verdict_ok}

abbrev pub Traced : World → Type 0
Traced t = ((v : ℕ) → Decided v t → Proposed v t) × ((p v r : ℕ) → Bears p v r t → Proposed v t)

module _ (R : Rule) where
  -- a moment fits the votes: each pair is a vote, each decision is chosen, and their readings are proposed
  pub record Fits (V : Votes) (t : World) : Type 0 where
    pub votes : (p v r : ℕ) → Bears p v r t → V p v r
    pub chosen : (v : ℕ) → Settled v t → Chosen R V v
    pub traced : Traced t

  good_decide : (V : Votes) (C : Cells) (k : Kind) (m : Message) → k ≡ Kind.Decide → GoodAs R V C k m → Chosen R V m.reading
  good_decide V C k m e h = rw e at h

  announced : (V : Votes) (C : Cells) (v : ℕ) (ms : List Message) → AllByRecursion (Good R V C) ms → Ever (λ m. (m.kind ≡ Kind.Decide) × (m.reading ≡ v)) ms → Chosen R V v
  announced V C v [] h i = absurd i
  announced V C v (m ∷ ms) h (inl i) = rw i.1 at (good_decide V C m.kind m i.0 h.0)
  announced V C v (m ∷ ms) h (inr i) = announced V C v ms h.1 i

  fits_now : (V : Votes) (t : World) → Sound R V t.cells → AllByRecursion (Good R V t.cells) t.box → Fits V t
  fits_now V t S tray = record {
    votes = λ p v r h. S.shown p v r h;
    chosen = λ v. ⊎_elim (λ d. S.settled d.0 v d.1) (announced V t.cells v t.box tray);
    traced = (
      λ v d. let c = S.settled d.0 v d.1 in S.known c.voter v c.stamp c.vote,
      λ p v r h. S.known p v r (S.shown p v r h),
    );
  }

  fits_grows : {V W : Votes} → ((q v s : ℕ) → V q v s → W q v s) → (t : World) → Fits V t → Fits W t
  fits_grows g t f = record { votes = λ p v r h. g p v r (f.votes p v r h); chosen = λ v h. chosen_grows R g v (f.chosen v h); traced = f.traced }

  -- after some actions of p
  pub record Did (places p : ℕ) (P : Votes → Cells → Type 0) (acts : List Action) (V : Votes) (t : World) : Type 1 where
    pub cast : Votes
    pub sound : Sound R cast (performed places p t acts).cells
    pub tray : AllByRecursion (Good R cast (performed places p t acts).cells) (performed places p t acts).box
    pub grows : Grows V t.cells cast (performed places p t acts).cells
    pub seen : AllByRecursion (Fits cast) (moments places p t acts)
    pub holds : P cast (performed places p t acts).cells
    pub apart : (q : ℕ) → (q ≡ p → ⊥) → ((v s : ℕ) → cast q v s → V q v s) × ((performed places p t acts).cells q 2 ≡ t.cells q 2)

  -- one action, then the others
  joined : (places p : ℕ) (P : Votes → Cells → Type 0) (a : Action) (acts : List Action) (V : Votes) (t : World)
      → (act places p t a).cells ≡ cells_after R t.cells p a → Sound R V t.cells → AllByRecursion (Good R V t.cells) t.box → May R V t.cells p a
      → Did places p P acts (votes_after R V p a) (act places p t a) → Did places p P (a ∷ acts) V t
  joined places p P a acts V t same S tray m d =
      let g : Grows V t.cells (votes_after R V p a) (act places p t a).cells = subst (λ (D : Cells). Grows V t.cells (votes_after R V p a) D) (sym same) (grows_act R V t.cells p a m) in
      let g' = grows_trans g d.grows in
      record {
        cast = d.cast;
        sound = d.sound;
        tray = d.tray;
        grows = g';
        seen = (fits_grows g'.votes t (fits_now V t S tray), d.seen);
        holds = d.holds;
        apart = λ q e. (
          λ v s h. vote_apart R V t.cells p a q e v s ((d.apart q e).0 v s h),
          (d.apart q e).1 ∙ ap (λ (D : Cells). D q 2) same ∙ round_apart R V t.cells p a q e,
        );
      }

  did : (places p : ℕ) (P : Votes → Cells → Type 0) (acts : List Action) (V : Votes) (t : World)
      → Sound R V t.cells → AllByRecursion (Good R V t.cells) t.box → Run R P p acts V t.cells → Did places p P acts V t
  did places p P [] V t S tray h = record {
    cast = V;
    sound = S;
    tray = tray;
    grows = grows_refl V t.cells;
    seen = (fits_now V t S tray, tt);
    holds = h;
    apart = λ q e. (λ v s k. k, refl);
  }
  did places p P (Write c x ∷ acts) V t S tray h =
      let a = Write c x in
      let S' = sound_act R V t.cells p a S h.0 in
      let g = grows_act R V t.cells p a h.0 in
      joined places p P a acts V t refl S tray h.0
      (did places p P acts (votes_after R V p a) (act places p t a) S' (All-weaker _ _ (good_grows R g) t.box tray) (h.1 S' g))
  did places p P (Send m ∷ acts) V t S tray h =
      joined places p P (Send m) acts V t refl S tray h.0
      (did places p P acts V (act places p t (Send m)) S
      (cond_both (ltb (length t.box) places) (t.box ++ (m ∷ [])) t.box (AllByRecursion (Good R V t.cells))
      (λ _. All-append (Good R V t.cells) t.box (m ∷ []) tray (h.0, tt)) (λ _. tray))
      (h.1 S (grows_refl V t.cells)))

  pub record Kept (V : Votes) (seen : List World) (s : State) : Type 1 where
    pub cast : Votes
    pub votes : (q v s : ℕ) → V q v s → cast q v s
    pub fit : AllByRecursion (Fits cast) seen
    pub holding : Holding R cast s

  -- the records after actions of p that leave it with o
  memories : {V W : Votes} {C D : Cells} → Grows V C W D → (p : ℕ) (records : List Status) (o : Status) → 1 ≤ p
      → ((q : ℕ) → (q ≡ p → ⊥) → ((v s : ℕ) → W q v s → V q v s) × (D q 2 ≡ C q 2))
      → ((i : ℕ) (μ : Memory) → get_or records i Down ≡ Up μ → Fine R V C (suc i) μ) → ((μ : Memory) → o ≡ Up μ → Fine R W D p μ)
      → (i : ℕ) (μ : Memory) → get_or (set records (p - 1) o) i Down ≡ Up μ → Fine R W D (suc i) μ
  memories {V} {W} {C} {D} g p records o p1 apart fine mine i μ =
      at_put (λ j k. k ≡ Up μ → Fine R W D (suc j) μ) records (p - 1) i o Down
      (λ e. cc)
      (λ j e. let here : p ≡ suc i = omega arith in rw here at (mine μ e))
      (λ j e. let ne : (suc i ≡ p) → ⊥ = λ k. j (omega arith) in
      fine_grows R g (suc i) μ (apart (suc i) ne).0 (apart (suc i) ne).1 (fine i μ e))

  -- the same, where a process is only put down
  fewer : {V : Votes} {C : Cells} (p : ℕ) (records : List Status) → ((i : ℕ) (μ : Memory) → get_or records i Down ≡ Up μ → Fine R V C (suc i) μ)
      → (i : ℕ) (μ : Memory) → get_or (set records (p - 1) Down) i Down ≡ Up μ → Fine R V C (suc i) μ
  fewer {V} {C} p records fine i μ =
      at_put (λ j k. k ≡ Up μ → Fine R V C (suc j) μ) records (p - 1) i Down Down (λ e. cc) (λ j e. cc) (λ j e. fine i μ e)

  all_without : (P : Message → Type 0) (ms : List Message) (i : ℕ) → AllByRecursion P ms → AllByRecursion P (without ms i)
  all_without P ms zero h = h
  all_without P ms (suc i) h = All-append P (take i ms) (drop (suc i) ms) (All-take P i ms h) (All-drop P (suc i) ms h)

  kept : (V : Votes) (s : State) → Holding R V s → (v : Verdict) → Okay R V s.cells v → Kept V (shown v s) (carried v s).after
  kept V s H (Verdict.refuse k) ok =
      record { cast = V; votes = λ q v s h. h; fit = (fits_now V (world s) H.sound H.tray, tt); holding = H }
  kept V s H (Verdict.perform p None t) ok =
      let whole : take (length t.acts) t.acts ≡ t.acts = take_all (length t.acts) t.acts (le_refl (length t.acts)) in
      let P : Votes → Cells → Type 0 = λ W D. Fine R W D p t.memory in
      let d = did s.places p P (take (length t.acts) t.acts) V (world s) H.sound H.tray (subst (λ (xs : List Action). Run R P p xs V s.cells) (sym whole) ok.1) in
      record {
        cast = d.cast;
        votes = d.grows.votes;
        fit = d.seen;
        holding = record {
          sound = d.sound;
          tray = d.tray;
          fine = memories d.grows p s.statuses (Up t.memory) ok.0 d.apart H.fine
              (λ μ e. let z : t.memory ≡ μ = cc in subst (λ (x : Memory). Fine R d.cast (performed s.places p (world s) (take (length t.acts) t.acts)).cells p x) z d.holds);
        };
      }
  kept V s H (Verdict.perform p (Some k) t) ok =
      let n = min (length t.acts) k in
      let d = did s.places p (λ W D. Unit {0}) (take n t.acts) V (world s) H.sound H.tray (run_take R p (λ W D. Fine R W D p t.memory) n t.acts V s.cells ok.1) in
      record {
        cast = d.cast;
        votes = d.grows.votes;
        fit = d.seen;
        holding = record {
          sound = d.sound;
          tray = d.tray;
          fine = memories d.grows p s.statuses Down ok.0 d.apart H.fine (λ μ e. cc);
        };
      }
  kept V s H (Verdict.put_down p) ok =
      record {
        cast = V;
        votes = λ q v s h. h;
        fit = (fits_now V (world s) H.sound H.tray, tt);
        holding = record { sound = H.sound; tray = H.tray; fine = fewer p s.statuses H.fine };
      }
  kept V s H (Verdict.drop_message i) ok =
      let tray = all_without (Good R V s.cells) s.box i H.tray in
      let t : World = record { cells = s.cells; box = without s.box i } in
      record { cast = V; votes = λ q v s h. h; fit = (fits_now V (world s) H.sound H.tray, (fits_now V t H.sound tray, tt)); holding = record { sound = H.sound; tray = tray; fine = H.fine } }

  pub record Ran (V : Votes) (seen : List World) : Type 1 where
    pub cast : Votes
    pub cells : Cells
    pub votes : (q v s : ℕ) → V q v s → cast q v s
    pub fit : AllByRecursion (Fits cast) seen
    pub sound : Sound R cast cells

-- no call changes the rule
same_rule : (v : Verdict) (s : State) → rule_of (carried v s).after ≡ rule_of s
same_rule (Verdict.refuse e) s = refl
same_rule (Verdict.perform p cut t) s = refl
same_rule (Verdict.put_down p) s = refl
same_rule (Verdict.drop_message i) s = refl

verdict_for : (R : Rule) (V : Votes) (s : State) → rule_of s ≡ R → Holding R V s → (c : PanelCall) → Okay R V s.cells (verdict c s)
verdict_for R V s e = subst (λ (Q : Rule). Holding Q V s → (c : PanelCall) → Okay Q V s.cells (verdict c s)) e (λ H. verdict_ok V s H)

pub ran : (R : Rule) (cs : List PanelCall) (V : Votes) (s : State) → rule_of s ≡ R → Holding R V s → Ran R V (run cs s)
unfolding run
ran R [] V s e H = record { cast = V; cells = s.cells; votes = λ q v s h. h; fit = (fits_now R V (world s) H.sound H.tray, tt); sound = H.sound }
ran R (c ∷ cs) V s e H =
    let k = kept R V s H (verdict c s) (verdict_for R V s e H c) in
    let r = ran R cs k.cast (done (verdict c) s).after (same_rule (verdict c s) s ∙ e) k.holding in
    record {
      cast = r.cast;
      cells = r.cells;
      votes = λ q v s h. r.votes q v s (k.votes q v s h);
      fit = All-append (Fits R r.cast) (shown (verdict c s) s) _ (All-weaker _ _ (fits_grows R r.votes) (shown (verdict c s) s) k.fit) r.fit;
      sound = r.sound;
    }
