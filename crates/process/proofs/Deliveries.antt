-- What a delivered message leaves of the acknowledgers and of the kept estimates, and what an entry writes first.
use Rattle.std.proofs.Common.{◌≡◌, ℕ, zero, suc, ◌-◌, Bool, true, false, cond, ◌&&◌, eqb, ◌⊎◌, List, [], ◌∷◌, ◌++◌, get_or, set, replicate, is_some, Some, None, Option, sym, refl, ap, ◌∙◌, subst, inl, inr, arith}
use Rattle.std.proofs.lemmas.List.{append_assoc, append-nil, get_or-set_other, set-get_or}
use Rattle.std.proofs.lemmas.Bool.Decides.{nat_tests}
use Rattle.std.proofs.lemmas.Bool.{and_parts, both_ways, cases_eq, cond_both, cond-true, eqb-true}
use Rattle.store.specs.declared.content.Content.{Content}
use Rattle.quorum.specs.Laws.{has}
use Rattle.tray.specs.declared.kinds.Estimate.{Estimate}
use Rattle.process.specs.declared.message.Message.{Message}
use Rattle.process.specs.declared.memory.Action.{Action}
use Rattle.process.specs.declared.memory.Action.TheVariants.{Write, Send}
use Rattle.process.specs.declared.memory.Memory.{Memory}
use Rattle.process.specs.declared.memory.Phase.{Phase}
use Rattle.process.specs.Laws.{Gains, KeptOnce, RepeatedAck, RoundFirst}
use Rattle.process.specs.Meetings.{accept, deliver, hear, heed, join, keep, learn, meet, reply}
use Rattle.process.specs.Phases.{is_ack, is_confirming, is_decide, is_done, is_estimate, is_gathering, is_new_estimate, is_waiting}
use Rattle.process.specs.Rounds.{Step, ack, addressed, begin, best_kept, chosen, choose, conclude, confirm, confirmed, coordinator, decide, enter, estimate, follow, gather, gathered, in_phase, lead, new_estimate, new_round, only, propound, remember, send, senders, settle, still, to_all, write}
use Rattle.process.proofs.Sends.{to_all_memory}
use Rattle.store.specs.declared.content.CellName.TheVariants as CellName

-- ---- sets of processes
none_in : (m k : ℕ) → get_or (replicate m false) k false ≡ false
none_in zero k = refl
none_in (suc m) zero = refl
none_in (suc m) (suc k) = none_in m k

-- a member of a set that one process joined is that process, or was a member
joined_by : (set_before : List Bool) (i k : ℕ) → has (set set_before i true) k ≡ true → (has set_before k ≡ true) ⊎ (k ≡ i)
joined_by xs i k h = elim (cases_eq k i) [ inl e ↦ inr e | inr ne ↦ inl (sym (get_or-set_other xs i k true false ne) ∙ h) ]

only_in : (p k : ℕ) → has (only p) k ≡ true → k ≡ p - 1
only_in p k h = elim (joined_by (replicate 9 false) (p - 1) k h) [ inl e ↦ absurd (both_ways (has (replicate 9 false) k) (none_in 9 k) e) | inr e ↦ e ]

joined_again : (xs : List Bool) (i : ℕ) → has xs i ≡ true → set xs i true ≡ xs
joined_again xs i h = ap (set xs i) (sym h) ∙ set-get_or xs i false

module _ (n p : ℕ) (enough : List Bool → Bool) where
  -- ---- settling
  propound_kept : (e : ℕ) (s : Step) → (propound n p e s).memory.kept ≡ s.memory.kept
  propound_kept e s = ap (λ (y : Memory). y.kept) (to_all_memory n (new_estimate p s.memory.round e) (write CellName.Pair e s.memory.round (remember (choose p e) s)))

  propound_only : (e : ℕ) (s : Step) → (propound n p e s).memory.acknowledgers ≡ only p
  propound_only e s = ap (λ (y : Memory). y.acknowledgers) (to_all_memory n (new_estimate p s.memory.round e) (write CellName.Pair e s.memory.round (remember (choose p e) s)))

  chosen_kept : (o : Option Estimate) (s : Step) → (chosen n p o s).memory.kept ≡ s.memory.kept
  chosen_kept None s = refl
  chosen_kept (Some b) s = propound_kept b.reading s

  gathered_kept : (s : Step) → (gathered n p enough s).memory.kept ≡ s.memory.kept
  gathered_kept s = grind (arith, chosen_kept (best_kept s.memory.kept) s)

  concluded : (s : Step) → ((conclude n p s).memory.kept ≡ s.memory.kept) × ((conclude n p s).memory.acknowledgers ≡ s.memory.acknowledgers)
  concluded s =
      let same = to_all_memory n (decide p s.memory.reading) s in
      (ap (λ (y : Memory). y.kept) same, ap (λ (y : Memory). y.acknowledgers) same)

  confirmed_keeps : (s : Step) → ((confirmed n p enough s).memory.kept ≡ s.memory.kept) × ((confirmed n p enough s).memory.acknowledgers ≡ s.memory.acknowledgers)
  confirmed_keeps s = let (kept, acks) = concluded s in (grind arith, grind arith)

  settle_kept : (s : Step) → (settle n p enough s).memory.kept ≡ s.memory.kept
  unfolding settle
  settle_kept s = (confirmed_keeps (gathered n p enough s)).0 ∙ gathered_kept s

  -- the acknowledgers that a gathering ends with
  abbrev Gained : Step → Step → Type 0
  Gained s u = (k : ℕ) → has u.memory.acknowledgers k ≡ true → (has s.memory.acknowledgers k ≡ true) ⊎ ((is_gathering s.memory.phase ≡ true) × (k ≡ p - 1))

  chosen_gained : (o : Option Estimate) (s : Step) → is_gathering s.memory.phase ≡ true → Gained s (chosen n p o s)
  chosen_gained None s g k h = inl h
  chosen_gained (Some b) s g k h = inr (g, only_in p k (sym (ap (λ (xs : List Bool). has xs k) (propound_only b.reading s)) ∙ h))

  gathered_gained : (s : Step) → Gained s (gathered n p enough s)
  gathered_gained s k h =
      let gained : is_gathering s.memory.phase ≡ true → Gained s (chosen n p (best_kept s.memory.kept) s) = chosen_gained (best_kept s.memory.kept) s in
      grind arith

  settle_gained : (s : Step) → Gained s (settle n p enough s)
  unfolding settle
  settle_gained s k h = gathered_gained s k (sym (ap (λ (xs : List Bool). has xs k) (confirmed_keeps (gathered n p enough s)).1) ∙ h)

  settle_acks : (s : Step) → is_gathering s.memory.phase ≡ false → (settle n p enough s).memory.acknowledgers ≡ s.memory.acknowledgers
  unfolding settle
  settle_acks s g = (confirmed_keeps (gathered n p enough s)).1 ∙ grind arith

  -- ---- a delivery
  reply_memory : (d : Option Content) (m : Message) (y : Memory) → (reply p d m (still y)).memory ≡ y
  reply_memory None m y = refl
  reply_memory (Some d) m y = grind arith

  module _ (m : Message) (y : Memory) where
    -- what the ways of a delivery leave, if settling after a kept estimate, settling after an ACK of the round and taking over the reading leave it
    delivered : (d : Option Content) (Q : Memory → Type 0) → Q y → Q (in_phase Phase.Done y) → Q (hear m y)
        → (is_gathering y.phase ≡ true → is_estimate m.kind ≡ true → Q (settle n p enough (remember (keep m) (still (hear m y)))).memory)
        → (is_confirming y.phase ≡ true → is_ack m.kind ≡ true → m.round ≡ y.round → Q (settle n p enough (remember (join m) (still (hear m y)))).memory)
        → Q (accept p m (still (hear m y))).memory → Q (deliver n p enough d m (still y)).memory
    unfolding deliver
    delivered d Q same done heard kept acked taken =
        let P : Step → Type 0 = λ u. Q u.memory in
        cond_both (is_done y.phase) (reply p d m (still y)) (cond (is_decide m.kind) (learn m (still y)) (heed n p enough m (still y))) P
        (λ _. subst Q (sym (reply_memory d m y)) same)
        (λ _. cond_both (is_decide m.kind) (learn m (still y)) (heed n p enough m (still y)) P (λ _. done)
        (λ _. cond_both (eqb m.round y.round) (meet n p enough m (remember (hear m) (still y))) (remember (hear m) (still y)) P
        (λ r. cond_both (is_gathering y.phase && is_estimate m.kind) (settle n p enough (remember (keep m) (still (hear m y)))) _ P
        (λ i. let (g, e) = and_parts (is_gathering y.phase) (is_estimate m.kind) i in kept g e)
        (λ _. cond_both (is_confirming y.phase && is_ack m.kind) (settle n p enough (remember (join m) (still (hear m y)))) _ P
        (λ i. let (c, a) = and_parts (is_confirming y.phase) (is_ack m.kind) i in acked c a (eqb-true m.round y.round r))
        (λ _. cond_both (is_waiting y.phase && is_new_estimate m.kind && eqb m.sender (coordinator n y.round)) (accept p m (still (hear m y))) (still (hear m y)) P (λ _. taken) (λ _. heard))))
        (λ _. heard)))

    pub deliver_gains : (d : Option Content) → Gains p m y (deliver n p enough d m (still y)).memory
    deliver_gains d =
        delivered d (Gains p m y) (λ k h. inl h) (λ k h. inl h) (λ k h. inl h)
        (λ g e k h. elim (settle_gained (remember (keep m) (still (hear m y))) k h) [ inl i ↦ inl i | inr i ↦ inr (inr i) ])
        (λ c a r k h. elim (joined_by y.acknowledgers (m.sender - 1) k (sym (ap (λ (xs : List Bool). has xs k) (settle_acks (remember (join m) (still (hear m y))) (grind arith))) ∙ h)) [
          | inl i ↦ inl i
          | inr i ↦ inr (inl (a, r, i))
        ])
        (λ k h. inl h)

    -- a repeated ACK leaves the acknowledgers
    again_same : (d : Option Content) → is_ack m.kind ≡ true → has y.acknowledgers (m.sender - 1) ≡ true → (deliver n p enough d m (still y)).memory.acknowledgers ≡ y.acknowledgers
    again_same d a there =
        delivered d (λ z. z.acknowledgers ≡ y.acknowledgers) refl refl refl
        (λ g e. absurd (grind arith))
        (λ c i r. settle_acks (remember (join m) (still (hear m y))) (grind arith) ∙ joined_again y.acknowledgers (m.sender - 1) there) refl

    -- joining again changes no memory
    join_none : has y.acknowledgers (m.sender - 1) ≡ true → remember (join m) (still (hear m y)) ≡ still (hear m y)
    join_none there = ap (λ (xs : List Bool). still (with_acks xs (hear m y))) (joined_again y.acknowledgers (m.sender - 1) there)
      where
        with_acks : List Bool → Memory → Memory
        with_acks xs z = record z { acknowledgers = xs }

    -- settling while confirming with too few acknowledgers does nothing
    settle_none : is_confirming y.phase ≡ true → enough y.acknowledgers ≡ false → settle n p enough (still (hear m y)) ≡ still (hear m y)
    unfolding settle
    settle_none c few = grind arith

    again_nothing : (d : Option Content) → is_ack m.kind ≡ true → has y.acknowledgers (m.sender - 1) ≡ true → enough y.acknowledgers ≡ false → is_done y.phase ≡ false
        → deliver n p enough d m (still y) ≡ still (hear m y)
    unfolding deliver
    again_nothing d a there few busy = grind (arith, nat_tests, join_none there, settle_none)

    pub deliver_again : (d : Option Content) → RepeatedAck enough m y (deliver n p enough d m (still y))
    deliver_again d = record { same = again_same d; nothing = again_nothing d }

    pub deliver_once : (d : Option Content) → KeptOnce m y (deliver n p enough d m (still y)).memory
    deliver_once d e there =
        delivered d (λ z. z.kept ≡ y.kept) refl refl refl
        (λ g i. settle_kept (remember (keep m) (still (hear m y))) ∙ cond-true (is_some (get_or y.kept (m.sender - 1) None)) y.kept _ there)
        (λ c a r. settle_kept (remember (join m) (still (hear m y)))) refl

  -- ---- an entry: each step only adds to the actions
  abbrev Adds : Step → Step → Type 0
  Adds s u = (more : List Action) × (u.acts ≡ s.acts ++ more)

  adds_none : (s : Step) → Adds s s
  adds_none s = ([], sym (append-nil s.acts))

  adds_then : (s u v : Step) → Adds s u → Adds u v → Adds s v
  adds_then s u v (a, e) (b, f) = (a ++ b, f ∙ (ap (λ (l : List Action). l ++ b) e ∙ append_assoc s.acts a b))

  adds_all : (k : ℕ) (m : Message) (s : Step) → Adds s (to_all k m s)
  adds_all zero m s = adds_none s
  adds_all (suc k) m s =
      cond_both (eqb (suc k) m.sender) (to_all k m s) (send (addressed m (suc k)) (to_all k m s)) (Adds s) (λ _. adds_all k m s)
      (λ _. adds_then s (to_all k m s) (send (addressed m (suc k)) (to_all k m s)) (adds_all k m s) (Send (addressed m (suc k)) ∷ [], refl))

  adds_propound : (e : ℕ) (s : Step) → Adds s (propound n p e s)
  adds_propound e s =
      let u = write CellName.Pair e s.memory.round (remember (choose p e) s) in
      adds_then s u (propound n p e s) (Write CellName.Pair (record { number = e; stamp = s.memory.round }) ∷ [], refl) (adds_all n (new_estimate p s.memory.round e) u)

  adds_chosen : (o : Option Estimate) (s : Step) → Adds s (chosen n p o s)
  adds_chosen None s = adds_none s
  adds_chosen (Some b) s = adds_propound b.reading s

  adds_gathered : (s : Step) → Adds s (gathered n p enough s)
  adds_gathered s =
      let best = best_kept s.memory.kept in
      cond_both (is_gathering s.memory.phase) (cond (enough (senders s.memory.kept)) (chosen n p best s) s) s (Adds s)
      (λ _. cond_both (enough (senders s.memory.kept)) (chosen n p best s) s (Adds s) (λ _. adds_chosen best s) (λ _. adds_none s)) (λ _. adds_none s)

  adds_conclude : (s : Step) → Adds s (conclude n p s)
  adds_conclude s =
      let u = to_all n (decide p s.memory.reading) s in
      adds_then s u (conclude n p s) (adds_all n (decide p s.memory.reading) s) (Write CellName.Decision (record { number = s.memory.reading; stamp = 0 }) ∷ [], refl)

  adds_confirmed : (s : Step) → Adds s (confirmed n p enough s)
  adds_confirmed s =
      cond_both (is_confirming s.memory.phase) (cond (enough s.memory.acknowledgers) (conclude n p s) s) s (Adds s)
      (λ _. cond_both (enough s.memory.acknowledgers) (conclude n p s) s (Adds s) (λ _. adds_conclude s) (λ _. adds_none s)) (λ _. adds_none s)

  adds_settle : (s : Step) → Adds s (settle n p enough s)
  unfolding settle
  adds_settle s = adds_then s (gathered n p enough s) (confirmed n p enough (gathered n p enough s)) (adds_gathered s) (adds_confirmed (gathered n p enough s))

  pub enter_first : (r : ℕ) (s u : Step) → u ≡ enter n p enough r s → RoundFirst r s u
  unfolding enter
  enter_first r s u is = subst (RoundFirst r s) (sym is) (first (begun_adds))
    where
      begun_adds : Adds (write CellName.Round r 0 (remember (begin r) s)) (enter n p enough r s)
      begun_adds =
          let b = write CellName.Round r 0 (remember (begin r) s) in
          let c = coordinator n r in
          cond_both (eqb p c) (settle n p enough (lead n p r b)) (follow p c r b) (Adds b)
          (λ _. adds_then b (lead n p r b) (settle n p enough (lead n p r b))
          (cond_both (eqb b.memory.stamp r) (to_all n (new_estimate p r b.memory.reading) (remember (confirm p) b)) (remember (gather p) (to_all n (new_round p r) b)) (Adds b)
          (λ _. adds_all n (new_estimate p r b.memory.reading) (remember (confirm p) b)) (λ _. adds_all n (new_round p r) b)) (adds_settle (lead n p r b)))
          (λ _. cond_both (eqb b.memory.stamp r) (remember (in_phase Phase.Acked) (send (addressed (ack p r) c) b)) (remember (in_phase Phase.Waiting) (send (addressed (estimate p r b.memory.reading b.memory.stamp) c) b)) (Adds b)
          (λ _. (Send (addressed (ack p r) c) ∷ [], refl)) (λ _. (Send (addressed (estimate p r b.memory.reading b.memory.stamp) c) ∷ [], refl)))

      first : Adds (write CellName.Round r 0 (remember (begin r) s)) (enter n p enough r s) → RoundFirst r s (enter n p enough r s)
      first (more, e) = (more, e ∙ append_assoc s.acts (Write CellName.Round (record { number = r; stamp = 0 }) ∷ []) more)
