-- Every step is lawful: it is short, writes a pair before it tells of it, and stays in range.
use Rattle.std.proofs.Common.{◌≡◌, ℕ, zero, suc, ◌+◌, ◌-◌, ◌<◌, ◌≤◌, Bool, true, false, cond, not, ◌&&◌, ◌||◌, eqb, leb, List, [], ◌∷◌, ◌++◌, length, get_or, set, replicate, is_some, Some, None, Ok, Err, Option, Result, sym, refl, ap, ◌∙◌, subst, inl, inr, mod-lt, arith}
use Rattle.std.specs.Option.{option_to_list}
use Rattle.std.specs.List.{flat_map, AllByRecursion}
use Rattle.std.proofs.ByRecursion.{All-set, All-push}
use Rattle.std.proofs.lemmas.List.{length_push}
use Rattle.std.proofs.lemmas.Bool.{and_from, and_parts, both_ways, cases_eq, cond_both, eqb-true, false≢true}
use Rattle.std.proofs.lemmas.Bool.Decides.{nat_tests}
use Rattle.store.specs.declared.content.Content.{Content}
use Rattle.store.specs.Cells.{sound}
use Rattle.store.specs.Ranges.{fits}
use Rattle.tray.proofs.Bests.{best_in}
use Rattle.tray.specs.Kinds.{prefers_estimate}
use Rattle.tray.specs.declared.kinds.Estimate.{Estimate}
use Rattle.process.specs.declared.message.Kind.{Kind}
use Rattle.process.specs.declared.message.Message.{Message}
use Rattle.process.specs.declared.memory.Action.{Action}
use Rattle.process.specs.declared.memory.Action.TheVariants.{Write, Send}
use Rattle.process.specs.declared.memory.Memory.{Memory}
use Rattle.process.specs.declared.memory.OwnCells.{OwnCells}
use Rattle.process.specs.declared.memory.Phase.{Phase}
use Rattle.process.specs.declared.turn.NoRound.{NoRound}
use Rattle.process.specs.Laws.{tells_of, is_late, pairs_first, Lawful, LookLawful}
use Rattle.process.specs.Looks.{epoch_of, epochs_fit, go_on, Least, look, may_enter, must_leave, next_round, note, trusts_some}
use Rattle.process.specs.Meetings.{accept, adopt, again, deliver, hear, heed, join, keep, learn, meet, post, reply, resend}
use Rattle.process.specs.Messages.{fields, is_reading, well_formed}
use Rattle.process.specs.Phases.{is_ack, is_active, is_confirming, is_decide, is_done, is_estimate, is_gathering, is_new_estimate, is_waiting}
use Rattle.process.specs.Ranges.{act_fits, any_there, estimate_fits, every, last_fits, memory_fits, round_fits}
use Rattle.process.specs.Rounds.{Step, ack, addressed, begin, best_kept, blank, chosen, choose, conclude, confirm, confirmed, coordinator, decide, enter, estimate, follow, gather, gathered, hold, in_phase, lead, new_estimate, new_round, noted, number_or, propose, propound, recover, remember, resumed, send, senders, settle, stamp_or, still, to_all, write}
use Rattle.process.proofs.Looks.{least_next}
use Rattle.process.proofs.Stages.{gathering_active, confirming_active, waiting_active}
use Rattle.store.specs.declared.content.CellName.{CellName}
use Rattle.store.specs.CellNames.{cell_number}

-- ---- tests over lists
pub all_of : {A : Type 0} (test : A → Bool) (xs : List A) → every test xs ≡ true → AllByRecursion (λ x. test x ≡ true) xs
all_of test [] e = tt
all_of test (x ∷ xs) e = let (here, rest) = and_parts (test x) (every test xs) e in (here, all_of test xs rest)

pub every_of : {A : Type 0} (test : A → Bool) (xs : List A) → AllByRecursion (λ x. test x ≡ true) xs → every test xs ≡ true
every_of test [] h = refl
every_of test (x ∷ xs) h = and_from (test x) (every test xs) h.0 (every_of test xs h.1)

all_replicate : {A : Type 0} (P : A → Type 0) (k : ℕ) (x : A) → P x → AllByRecursion P (replicate k x)
all_replicate P zero x h = tt
all_replicate P (suc k) x h = (h, all_replicate P k x h)

-- ---- pairs before what tells of them
silent : Action → Bool
silent (Write c v) = true
silent (Send m) = not (is_new_estimate m.kind || is_ack m.kind)

-- the second action may follow the first
apart : Action → Action → Bool
apart (Write c v) a = true
apart (Send m) (Write c v) = not (eqb (cell_number c) 3 && tells_of v m)
apart (Send m) (Send x) = true

late_push : (m : Message) (acts : List Action) (a : Action) → is_late m acts ≡ true → apart (Send m) a ≡ true → is_late m (acts ++ a ∷ []) ≡ true
unfolding apart
late_push m [] (Write c v) h k = grind arith
late_push m [] (Send x) h k = refl
late_push m (Write c v ∷ acts) a h k =
    let rest = late_push m acts a (grind arith) k in grind arith
late_push m (Send x ∷ acts) a h k = late_push m acts a h k

pairs_push : (acts : List Action) (a : Action) → pairs_first acts ≡ true → AllByRecursion (λ b. apart b a ≡ true) acts → pairs_first (acts ++ a ∷ []) ≡ true
unfolding apart
pairs_push [] (Write c v) h k = refl
pairs_push [] (Send m) h k = refl
pairs_push (Write c v ∷ acts) a h k = pairs_push acts a h k.1
pairs_push (Send m ∷ acts) a h k =
    let late = late_push m acts a (grind arith) k.0 in let rest = pairs_push acts a (grind arith) k.1 in grind arith

apart_send : (m : Message) (acts : List Action) → AllByRecursion (λ b. apart b (Send m) ≡ true) acts
unfolding apart
apart_send m [] = tt
apart_send m (Write c v ∷ acts) = (refl, apart_send m acts)
apart_send m (Send x ∷ acts) = (refl, apart_send m acts)

apart_write : (c : CellName) (v : Content) → eqb (cell_number c) 3 ≡ false → (acts : List Action) → AllByRecursion (λ b. apart b (Write c v) ≡ true) acts
unfolding apart
apart_write c v e [] = tt
apart_write c v e (Write d w ∷ acts) = (refl, apart_write c v e acts)
apart_write c v e (Send x ∷ acts) = (rw e refl, apart_write c v e acts)

apart_pair : (v : Content) (acts : List Action) → AllByRecursion (λ a. silent a ≡ true) acts → AllByRecursion (λ b. apart b (Write CellName.Pair v) ≡ true) acts
unfolding silent apart
apart_pair v [] h = tt
apart_pair v (Write d w ∷ acts) h = (refl, apart_pair v acts h.1)
apart_pair v (Send x ∷ acts) h = (quiet (is_new_estimate x.kind || is_ack x.kind) (eqb x.round v.stamp) h.0, apart_pair v acts h.1)
  where
    quiet : (b e : Bool) → not b ≡ true → not (true && (b && e)) ≡ true
    quiet true e i = absurd (false≢true i)
    quiet false e i = refl

-- ---- numbers in range
abbrev Reading : ℕ → Type 0
Reading v = (1 ≤ v) × (v ≤ 99999999)

abbrev Round : ℕ → Type 0
Round r = (1 ≤ r) × (r ≤ 999999)

-- a memory in a round
record InRound (r e t : ℕ) (ks : List (Option Estimate)) : Type 0 where
  round : Round r
  reading : Reading e
  stamp : t ≤ 999999
  kept : AllByRecursion (λ o. any_there estimate_fits o ≡ true) ks

abbrev Sane : Memory → Type 0
Sane y = InRound y.round y.reading y.stamp y.kept

of_round_fits : (y : Memory) → round_fits y ≡ true → Sane y
of_round_fits y e = record {
  round = grind (arith, nat_tests);
  reading = grind (arith, nat_tests);
  stamp = grind (arith, nat_tests);
  kept = all_of (any_there estimate_fits) y.kept (grind (arith, nat_tests));
}

to_round_fits : (y : Memory) → Sane y → round_fits y ≡ true
to_round_fits y s = let kept = every_of (any_there estimate_fits) y.kept s.kept in grind (arith, nat_tests)

-- ---- the best of estimates is one of them
kept_list : {A : Type 0} (test : A → Bool) (os : List (Option A)) → AllByRecursion (λ o. any_there test o ≡ true) os → AllByRecursion (λ x. test x ≡ true) (flat_map option_to_list os)
kept_list test [] h = tt
kept_list test (None ∷ os) h = kept_list test os h.1
kept_list test (Some x ∷ os) h = (h.0, kept_list test os h.1)

best_reading : (y : Memory) (b : Estimate) → Sane y → best_kept y.kept ≡ Some b → Reading b.reading
best_reading y b s e =
    let fits = best_in prefers_estimate (λ x. estimate_fits x ≡ true) (flat_map option_to_list y.kept) b (kept_list estimate_fits y.kept s.kept) e in
    grind (arith, nat_tests)

-- ---- what the fields of a message say
kind_round : (k : Kind) (r v t : ℕ) → fields k r v t ≡ true → is_decide k ≡ false → r ≤ 999999
kind_round k r v t e o = grind (arith, nat_tests)

kind_estimate : (k : Kind) (r v t : ℕ) → fields k r v t ≡ true → is_estimate k ≡ true → (is_reading v && leb t 999999) ≡ true
kind_estimate k r v t e o = grind (arith, nat_tests)

kind_new_estimate : (k : Kind) (r v t : ℕ) → fields k r v t ≡ true → is_new_estimate k ≡ true → Reading v
kind_new_estimate k r v t e o = grind (arith, nat_tests)

kind_decide : (k : Kind) (r v t : ℕ) → fields k r v t ≡ true → is_decide k ≡ true → Reading v
kind_decide k r v t e o = grind (arith, nat_tests)

-- ---- what a cell in range says
round_from : (r : Option Content) → sound 2 r ≡ true → Round (number_or r 1)
round_from None e = (omega arith, omega arith)
round_from (Some x) e = grind (arith, nat_tests)

reading_from : (w : Option Content) (v : Content) → sound 1 (Some v) ≡ true → sound 3 w ≡ true → Reading (number_or w v.number)
reading_from None v e f = grind (arith, nat_tests)
reading_from (Some x) v e f = grind (arith, nat_tests)

stamp_from : (w : Option Content) → sound 3 w ≡ true → stamp_or w 0 ≤ 999999
stamp_from None f = omega arith
stamp_from (Some x) f = grind (arith, nat_tests)

epoch_fits : (list : List (Option ℕ)) (i : ℕ) → epochs_fit list ≡ true → any_there (λ k. leb k 999999) (get_or list i None) ≡ true
epoch_fits [] i e = refl
epoch_fits (o ∷ es) zero e = grind (arith, nat_tests)
epoch_fits (o ∷ es) (suc i) e = epoch_fits es i (grind (arith, nat_tests))

-- ---- the last messages, sent again
resend_pairs : (os : List (Option Message)) → pairs_first (flat_map resend os) ≡ true
resend_pairs [] = refl
resend_pairs (None ∷ os) = resend_pairs os
resend_pairs (Some m ∷ os) = grind (arith, late os, resend_pairs os)
  where
    late : (os : List (Option Message)) → is_late m (flat_map resend os) ≡ true
    late [] = refl
    late (None ∷ os) = late os
    late (Some x ∷ os) = late os

resend_few : (os : List (Option Message)) → length (flat_map resend os) ≤ length os
resend_few [] = omega arith
resend_few (None ∷ os) = omega (arith, resend_few os)
resend_few (Some m ∷ os) = omega (arith, resend_few os)

resend_acts : (n p : ℕ) (os : List (Option Message)) → AllByRecursion (λ o. any_there (last_fits n p) o ≡ true) os → AllByRecursion (λ a. act_fits n p a ≡ true) (flat_map resend os)
resend_acts n p [] h = tt
resend_acts n p (None ∷ os) h = resend_acts n p os h.1
resend_acts n p (Some m ∷ os) h = (h.0, resend_acts n p os h.1)

-- ---- the steps of process p of n, with messages between processes 1 to N; F is what is known of the memory at the start
module _ (n N p : ℕ) (n1 : 1 ≤ n) (n9 : n ≤ 9) (nN : n ≤ N) (p1 : 1 ≤ p) (pn : p ≤ n) (F : Type 0) where
  -- what every action keeps
  record Sound (done : List Action) (h : ℕ) (o : Option ℕ) (l : List (Option Message)) : Type 0 where
    pairs : pairs_first done ≡ true
    acts : F → AllByRecursion (λ a. act_fits N p a ≡ true) done
    heard : F → h ≤ 999999
    epoch : F → any_there (λ k. leb k 999999) o ≡ true
    last : F → AllByRecursion (λ o. any_there (last_fits N p) o ≡ true) l

  abbrev Base : Step → Type 0
  Base s = Sound s.acts s.memory.heard s.memory.epoch s.memory.last

  may_send : (m : Message) → m.sender ≡ p → 1 ≤ m.addressee → m.addressee ≤ n → (m.addressee ≡ p → ⊥) → fields m.kind m.round m.reading m.stamp ≡ true
      → (well_formed N m && eqb m.sender p) ≡ true
  may_send m from low high other f = grind (arith, nat_tests)

  send_base : (m : Message) (s : Step) → (F → (well_formed N m && eqb m.sender p) ≡ true) → Base s → Base (send m s)
  send_base m s ok b = record {
    pairs = pairs_push s.acts (Send m) b.pairs (apart_send m s.acts);
    acts = λ f. All-push (λ a. act_fits N p a ≡ true) s.acts (Send m) (b.acts f) (ok f);
    heard = b.heard;
    epoch = b.epoch;
    last = λ f. All-set (λ o. any_there (last_fits N p) o ≡ true) s.memory.last (m.addressee - 1) (Some m) (ok f) (b.last f);
  }

  write_base : (c : CellName) (v t : ℕ) (s : Step) → eqb (cell_number c) 3 ≡ false → (F → act_fits N p (Write c (record { number = v; stamp = t })) ≡ true) → Base s → Base (write c v t s)
  write_base c v t s e ok b = record {
    pairs = pairs_push s.acts (Write c (record { number = v; stamp = t })) b.pairs (apart_write c (record { number = v; stamp = t }) e s.acts);
    acts = λ f. All-push (λ a. act_fits N p a ≡ true) s.acts (Write c (record { number = v; stamp = t })) (b.acts f) (ok f);
    heard = b.heard;
    epoch = b.epoch;
    last = b.last;
  }

  pair_base : (v t : ℕ) (s : Step) → AllByRecursion (λ a. silent a ≡ true) s.acts → (F → act_fits N p (Write CellName.Pair (record { number = v; stamp = t })) ≡ true) → Base s → Base (write CellName.Pair v t s)
  pair_base v t s quiet ok b = record {
    pairs = pairs_push s.acts (Write CellName.Pair (record { number = v; stamp = t })) b.pairs (apart_pair (record { number = v; stamp = t }) s.acts quiet);
    acts = λ f. All-push (λ a. act_fits N p a ≡ true) s.acts (Write CellName.Pair (record { number = v; stamp = t })) (b.acts f) (ok f);
    heard = b.heard;
    epoch = b.epoch;
    last = b.last;
  }

  -- what process p writes
  fit_proposal : (v : ℕ) → Reading v → act_fits N p (Write CellName.Proposal (record { number = v; stamp = 0 })) ≡ true
  fit_proposal v (l, h) = grind (arith, nat_tests)

  fit_round : (r : ℕ) → Round r → act_fits N p (Write CellName.Round (record { number = r; stamp = 0 })) ≡ true
  fit_round r (l, h) = grind (arith, nat_tests)

  fit_pair : (v r : ℕ) → Reading v → r ≤ 999999 → act_fits N p (Write CellName.Pair (record { number = v; stamp = r })) ≡ true
  fit_pair v r (l, h) k = grind (arith, nat_tests)

  fit_decision : (v : ℕ) → Reading v → act_fits N p (Write CellName.Decision (record { number = v; stamp = 0 })) ≡ true
  fit_decision v (l, h) = grind (arith, nat_tests)

  -- a message for all
  module _ (m : Message) (from : m.sender ≡ p) where
    all_base : (k : ℕ) (s : Step) → k ≤ n → (F → fields m.kind m.round m.reading m.stamp ≡ true) → Base s → Base (to_all k m s)
    all_base zero s h f b = b
    all_base (suc k) s h f b =
        let t = all_base k s (omega arith) f b in
        cond_both (eqb (suc k) m.sender) (to_all k m s) (send (addressed m (suc k)) (to_all k m s)) Base (λ _. t)
        (λ e. send_base (addressed m (suc k)) (to_all k m s)
        (λ i. may_send (addressed m (suc k)) from (omega arith) h
        (λ same. grind (arith, nat_tests)) (f i)) t)

    -- how many are sent
    all_below : (k : ℕ) (s : Step) → k < p → length (to_all k m s).acts ≡ length s.acts + k
    all_below zero s h = omega arith
    all_below (suc k) s h =
        cond_both (eqb (suc k) m.sender) (to_all k m s) (send (addressed m (suc k)) (to_all k m s)) (λ (u : Step). length u.acts ≡ length s.acts + suc k)
        (λ e. absurd (omega (arith, eqb-true (suc k) m.sender e)))
        (λ _. length_push (to_all k m s).acts (Send (addressed m (suc k))) ∙ omega (arith, all_below k s (omega arith)))

    all_few : (k : ℕ) (s : Step) → p ≤ k → length (to_all k m s).acts + 1 ≡ length s.acts + k
    all_few zero s h = absurd (omega arith)
    all_few (suc k) s h = elim (cases_eq p (suc k)) [
      | inl e ↦
          cond_both (eqb (suc k) m.sender) (to_all k m s) (send (addressed m (suc k)) (to_all k m s)) (λ (u : Step). length u.acts + 1 ≡ length s.acts + suc k)
          (λ _. omega (arith, all_below k s (omega arith)))
          (λ i. absurd (grind (arith, nat_tests)))
      | inr ne ↦
          cond_both (eqb (suc k) m.sender) (to_all k m s) (send (addressed m (suc k)) (to_all k m s)) (λ (u : Step). length u.acts + 1 ≡ length s.acts + suc k)
          (λ i. absurd (ne (sym from ∙ sym (eqb-true (suc k) m.sender i))))
          (λ _. omega (arith, all_few k s (omega arith), length_push (to_all k m s).acts (Send (addressed m (suc k)))))
    ]

    all_eight : (s : Step) → length (to_all n m s).acts ≤ length s.acts + 8
    all_eight s = omega (arith, all_few n s pn)

    -- what it leaves of the memory and of silence
    all_keeps : (Q : Memory → Type 0) → ((y : Memory) (x : Message) → Q y → Q (noted x y)) → (k : ℕ) (s : Step) → Q s.memory → Q (to_all k m s).memory
    all_keeps Q keeps zero s h = h
    all_keeps Q keeps (suc k) s h =
        cond_both (eqb (suc k) m.sender) (to_all k m s) (send (addressed m (suc k)) (to_all k m s)) (λ (u : Step). Q u.memory)
        (λ _. all_keeps Q keeps k s h) (λ _. keeps (to_all k m s).memory (addressed m (suc k)) (all_keeps Q keeps k s h))

    all_silent : (k : ℕ) (s : Step) → not (is_new_estimate m.kind || is_ack m.kind) ≡ true → AllByRecursion (λ a. silent a ≡ true) s.acts → AllByRecursion (λ a. silent a ≡ true) (to_all k m s).acts
    unfolding silent
    all_silent zero s q h = h
    all_silent (suc k) s q h =
        cond_both (eqb (suc k) m.sender) (to_all k m s) (send (addressed m (suc k)) (to_all k m s)) (λ (u : Step). AllByRecursion (λ a. silent a ≡ true) u.acts)
        (λ _. all_silent k s q h) (λ _. All-push (λ a. silent a ≡ true) (to_all k m s).acts (Send (addressed m (suc k))) (all_silent k s q h) q)

  -- what holds of a step in progress with at most k actions
  record Fine (k : ℕ) (s : Step) : Type 0 where
    base : Base s
    few : length s.acts ≤ k
    sane : F → is_active s.memory.phase ≡ true → Sane s.memory
    quiet : is_gathering s.memory.phase ≡ true → AllByRecursion (λ a. silent a ≡ true) s.acts

  fine_more : (j k : ℕ) (s : Step) → j ≤ k → Fine j s → Fine k s
  fine_more j k s h f = record { base = f.base; few = omega (arith, f.few); sane = f.sane; quiet = f.quiet }

  abbrev InPhase : Phase → Memory → Type 0
  InPhase f y = y.phase ≡ f

  module _ (enough : List Bool → Bool) where
    conclude_fine : (k : ℕ) (s : Step) → Fine k s → is_confirming s.memory.phase ≡ true → Fine (k + 9) (conclude n p s)
    conclude_fine k s h i =
        let e = s.memory.reading in
        let m = decide p e in
        let v : F → Reading e = λ f. (h.sane f (confirming_active s.memory.phase i)).reading in
        let t = all_base m refl n s (omega arith) (λ f. let fits = v f in grind (arith, nat_tests)) h.base in
        let w = write_base CellName.Decision e 0 (to_all n m s) refl (λ f. fit_decision e (v f)) t in
        record {
          base = w;
          few = omega (arith, length_push (to_all n m s).acts (Write CellName.Decision (record { number = e; stamp = 0 })), all_eight m refl s, h.few);
          sane = λ f j. absurd (false≢true j);
          quiet = λ j. absurd (false≢true j);
        }

    confirmed_fine : (k : ℕ) (s : Step) → Fine k s → Fine (k + 9) (confirmed n p enough s)
    confirmed_fine k s h =
        cond_both (is_confirming s.memory.phase) (cond (enough s.memory.acknowledgers) (conclude n p s) s) s (Fine (k + 9))
        (λ i. cond_both (enough s.memory.acknowledgers) (conclude n p s) s (Fine (k + 9)) (λ _. conclude_fine k s h i) (λ _. fine_more k (k + 9) s (omega arith) h))
        (λ _. fine_more k (k + 9) s (omega arith) h)

    propound_fine : (k : ℕ) (s : Step) (e : ℕ) → Base s → length s.acts ≤ k → AllByRecursion (λ a. silent a ≡ true) s.acts → (F → Sane s.memory) → (F → Reading e) → Fine (k + 9) (propound n p e s)
    propound_fine k s e b few quiet sane v =
        let r = s.memory.round in
        let m = new_estimate p r e in
        let u = remember (choose p e) s in
        let w = pair_base e r u quiet (λ f. fit_pair e r (v f) (sane f).round.1) b in
        record {
          base = all_base m refl n (write CellName.Pair e r u) (omega arith)
              (λ f. let now = (sane f).round in let fits = v f in grind (arith, nat_tests)) w;
          few = omega (arith, all_eight m refl (write CellName.Pair e r u), length_push s.acts (Write CellName.Pair (record { number = e; stamp = r })));
          sane = λ f _.
              all_keeps m refl Sane (λ y x q. q) n (write CellName.Pair e r u)
              (record { round = (sane f).round; reading = v f; stamp = (sane f).round.1; kept = (sane f).kept });
          quiet = λ j. absurd (not_gathering (to_all n m (write CellName.Pair e r u)).memory.phase (all_keeps m refl (InPhase Phase.Confirming) (λ y x q. q) n (write CellName.Pair e r u) refl) j);
        }
      where
        not_gathering : (f : Phase) → f ≡ Phase.Confirming → is_gathering f ≡ true → ⊥
        not_gathering f q j = both_ways (is_gathering f) (ap is_gathering q) j

    chosen_fine : (k : ℕ) (s : Step) (o : Option Estimate) → best_kept s.memory.kept ≡ o → is_gathering s.memory.phase ≡ true → Fine k s → Fine (k + 9) (chosen n p o s)
    chosen_fine k s None is g h = fine_more k (k + 9) s (omega arith) h
    chosen_fine k s (Some b) is g h =
        let sane : F → Sane s.memory = λ f. h.sane f (gathering_active s.memory.phase g) in
        propound_fine k s b.reading h.base h.few (h.quiet g) sane (λ f. best_reading s.memory b (sane f) is)

    gathered_fine : (k : ℕ) (s : Step) → Fine k s → Fine (k + 9) (gathered n p enough s)
    gathered_fine k s h =
        let best = best_kept s.memory.kept in
        cond_both (is_gathering s.memory.phase) (cond (enough (senders s.memory.kept)) (chosen n p best s) s) s (Fine (k + 9))
        (λ g. cond_both (enough (senders s.memory.kept)) (chosen n p best s) s (Fine (k + 9)) (λ _. chosen_fine k s best refl g h) (λ _. fine_more k (k + 9) s (omega arith) h))
        (λ _. fine_more k (k + 9) s (omega arith) h)

    settle_fine : (k : ℕ) (s : Step) → Fine k s → Fine (k + 18) (settle n p enough s)
    unfolding settle
    settle_fine k s h = fine_more (k + 9 + 9) (k + 18) (settle n p enough s) (omega arith) (confirmed_fine (k + 9) (gathered n p enough s) (gathered_fine k s h))

    -- entering a round
    module _ (k r : ℕ) (s : Step) (round : F → Round r) (b : Base s) (few : length s.acts ≤ k) (quiet : AllByRecursion (λ a. silent a ≡ true) s.acts)
        (v : F → Reading s.memory.reading) (t : F → s.memory.stamp ≤ 999999) where
      abbrev u : Step
      u = write CellName.Round r 0 (remember (begin r) s)

      u_base : Base u
      u_base =
          write_base CellName.Round r 0 (remember (begin r) s) refl (λ f. fit_round r (round f))
          (record { pairs = b.pairs; acts = b.acts; heard = b.heard; epoch = λ _. refl; last = b.last })

      u_few : length u.acts ≤ k + 1
      u_few = omega (arith, length_push s.acts (Write CellName.Round (record { number = r; stamp = 0 })))

      u_quiet : AllByRecursion (λ a. silent a ≡ true) u.acts
      unfolding silent
      u_quiet = All-push (λ a. silent a ≡ true) s.acts (Write CellName.Round (record { number = r; stamp = 0 })) quiet refl

      none_kept : AllByRecursion (λ o. any_there estimate_fits o ≡ true) (replicate 9 None)
      none_kept = all_replicate (λ o. any_there estimate_fits o ≡ true) 9 None refl

      c_in : (1 ≤ coordinator n r) × (coordinator n r ≤ n)
      c_in = (omega arith, omega (arith, mod-lt r n1))

      confirm_fine : Fine (k + 9) (to_all n (new_estimate p r s.memory.reading) (remember (confirm p) u))
      confirm_fine =
          let e = s.memory.reading in
          let m = new_estimate p r e in
          let x = remember (confirm p) u in
          record {
            base = all_base m refl n x (omega arith)
                (λ f. let now = round f in let fits = v f in grind (arith, nat_tests)) u_base;
            few = omega (arith, all_eight m refl x, u_few);
            sane = λ f _. all_keeps m refl Sane (λ y x q. q) n x (record { round = round f; reading = v f; stamp = t f; kept = none_kept });
            quiet = λ j. absurd (both_ways (is_gathering (to_all n m x).memory.phase) (ap is_gathering (all_keeps m refl (InPhase Phase.Confirming) (λ y z q. q) n x refl)) j);
          }

      gather_fine : Fine (k + 9) (remember (gather p) (to_all n (new_round p r) u))
      gather_fine =
          let m = new_round p r in
          let w = all_base m refl n u (omega arith) (λ f. let now = round f in grind (arith, nat_tests)) u_base in
          record {
            base = w;
            few = omega (arith, all_eight m refl u, u_few);
            sane = λ f _.
                let y = (to_all n m u).memory in
                let before : Sane y = all_keeps m refl Sane (λ y x q. q) n u (record { round = round f; reading = v f; stamp = t f; kept = none_kept }) in
                record {
                  round = before.round;
                  reading = before.reading;
                  stamp = before.stamp;
                  kept = All-set (λ o. any_there estimate_fits o ≡ true) y.kept (p - 1) (Some (record { sender = p; reading = y.reading; stamp = y.stamp }))
                      (grind (arith, nat_tests)) before.kept;
                };
            quiet = λ _. all_silent m refl n u refl u_quiet;
          }

      acked_fine : (p ≡ coordinator n r → ⊥) → Fine (k + 2) (remember (in_phase Phase.Acked) (send (addressed (ack p r) (coordinator n r)) u))
      acked_fine other =
          let m = addressed (ack p r) (coordinator n r) in
          let w = send_base m u (λ f. may_send m refl c_in.0 c_in.1 (λ e. other (sym e)) (let now = round f in grind (arith, nat_tests))) u_base in
          record {
            base = w;
            few = omega (arith, length_push u.acts (Send m), u_few);
            sane = λ f _. record { round = round f; reading = v f; stamp = t f; kept = none_kept };
            quiet = λ j. absurd (false≢true j);
          }

      waiting_fine : (p ≡ coordinator n r → ⊥) → Fine (k + 2) (remember (in_phase Phase.Waiting) (send (addressed (estimate p r s.memory.reading s.memory.stamp) (coordinator n r)) u))
      waiting_fine other =
          let e = s.memory.reading in
          let d = s.memory.stamp in
          let m = addressed (estimate p r e d) (coordinator n r) in
          let w = send_base m u (λ f. may_send m refl c_in.0 c_in.1 (λ q. other (sym q))
          (let now = round f in let fits = v f in let young = t f in grind (arith, nat_tests))) u_base in
          record {
            base = w;
            few = omega (arith, length_push u.acts (Send m), u_few);
            sane = λ f _. record { round = round f; reading = v f; stamp = t f; kept = none_kept };
            quiet = λ j. absurd (false≢true j);
          }

      enter_fine : Fine (k + 27) (enter n p enough r s)
      unfolding enter
      enter_fine =
          let c = coordinator n r in
          let e = s.memory.reading in
          let d = s.memory.stamp in
          cond_both (eqb p c) (settle n p enough (lead n p r u)) (follow p c r u) (Fine (k + 27))
          (λ _. fine_more (k + 9 + 18) (k + 27) (settle n p enough (lead n p r u)) (omega arith)
          (settle_fine (k + 9) (lead n p r u)
          (cond_both (eqb d r) (to_all n (new_estimate p r e) (remember (confirm p) u)) (remember (gather p) (to_all n (new_round p r) u)) (Fine (k + 9)) (λ _. confirm_fine) (λ _. gather_fine))))
          (λ i.
          let other : p ≡ c → ⊥ = λ q. grind (arith, nat_tests) in
          cond_both (eqb d r) (remember (in_phase Phase.Acked) (send (addressed (ack p r) c) u)) (remember (in_phase Phase.Waiting) (send (addressed (estimate p r e d) c) u)) (Fine (k + 27))
          (λ _. fine_more (k + 2) (k + 27) _ (omega arith) (acked_fine other)) (λ _. fine_more (k + 2) (k + 27) _ (omega arith) (waiting_fine other)))

    -- propose
    propose_fine : (v : ℕ) (y : Memory) → (F → Reading v) → Base (still y) → Fine 28 (propose n p enough v (still y))
    unfolding propose silent
    propose_fine v y reads b =
        enter_fine 1 1 (remember (hold v 0) (write CellName.Proposal v 0 (still y))) (λ _. (omega arith, omega arith))
        (write_base CellName.Proposal v 0 (still y) refl (λ f. fit_proposal v (reads f)) b)
        (omega arith) (refl, tt) reads (λ _. omega arith)

    -- recover
    none_last : AllByRecursion (λ o. any_there (last_fits N p) o ≡ true) (replicate 9 None)
    none_last = all_replicate (λ o. any_there (last_fits N p) o ≡ true) 9 None refl

    fresh_base : (y : Memory) → y.heard ≡ 0 → y.epoch ≡ None → y.last ≡ replicate 9 None → Base (still y)
    fresh_base y h e l = record {
      pairs = refl;
      acts = λ _. tt;
      heard = λ _. omega arith;
      epoch = λ _. ap (any_there (λ k. leb k 999999)) e;
      last = λ _. subst (AllByRecursion (λ o. any_there (last_fits N p) o ≡ true)) (sym l) none_last;
    }

    recover_fine : (cs : OwnCells) → (F → (sound 1 cs.proposal ≡ true) × (sound 2 cs.round ≡ true) × (sound 3 cs.pair ≡ true)) → Fine 27 (recover n p enough cs)
    unfolding recover
    recover_fine cs fit = go cs.decision cs.proposal cs.round cs.pair fit
      where
        go : (d v r w : Option Content) → (F → (sound 1 v ≡ true) × (sound 2 r ≡ true) × (sound 3 w ≡ true)) → Fine 27 (resumed n p enough d v r w)
        go (Some d) v r w fit = record { base = fresh_base (in_phase Phase.Done blank) refl refl refl; few = omega arith; sane = λ f j. absurd (false≢true j); quiet = λ j. absurd (false≢true j) }
        go None None r w fit = record { base = fresh_base blank refl refl refl; few = omega arith; sane = λ f j. absurd (false≢true j); quiet = λ j. absurd (false≢true j) }
        go None (Some v) r w fit =
            enter_fine 0 (number_or r 1) (still (hold (number_or w v.number) (stamp_or w 0) blank)) (λ f. round_from r (fit f).1)
            (fresh_base (hold (number_or w v.number) (stamp_or w 0) blank) refl refl refl) (omega arith) tt
            (λ f. reading_from w v (fit f).0 (fit f).2) (λ f. stamp_from w (fit f).2)

    -- again
    again_base : (y : Memory) → Base (still y) → Base (again y)
    again_base y b = record {
      pairs = resend_pairs y.last;
      acts = λ f. resend_acts N p y.last (b.last f);
      heard = b.heard;
      epoch = b.epoch;
      last = b.last;
    }

    -- deliver: m is for p
    module _ (m : Message) (y : Memory) (to : m.addressee ≡ p) (well : F → well_formed n m ≡ true) (b : Base (still y)) (sane : F → is_active y.phase ≡ true → Sane y) where
      says : F → fields m.kind m.round m.reading m.stamp ≡ true
      says f = let w = well f in grind (arith, nat_tests)

      from_other : F → (1 ≤ m.sender) × (m.sender ≤ n) × (m.sender ≡ p → ⊥)
      from_other f = let w = well f in (grind (arith, nat_tests), grind (arith, nat_tests), λ e. grind (arith, nat_tests))

      abbrev h : Memory
      h = hear m y

      heard_base : is_decide m.kind ≡ false → Base (still h)
      heard_base other = record {
        pairs = refl;
        acts = λ _. tt;
        heard = λ f. let r = kind_round m.kind m.round m.reading m.stamp (says f) other in omega (arith, b.heard f);
        epoch = b.epoch;
        last = b.last;
      }

      heard_fine : is_decide m.kind ≡ false → Fine 0 (still h)
      heard_fine other = record { base = heard_base other; few = omega arith; sane = sane; quiet = λ _. tt }

      keep_fine : is_decide m.kind ≡ false → is_estimate m.kind ≡ true → Fine 0 (remember (keep m) (still h))
      keep_fine other is = record {
        base = heard_base other;
        few = omega arith;
        sane = λ f i.
            let s = sane f i in
            let x : Estimate = record { sender = m.sender; reading = m.reading; stamp = m.stamp } in
            record {
              round = s.round;
              reading = s.reading;
              stamp = s.stamp;
              kept = cond_both (is_some (get_or h.kept (m.sender - 1) None)) h.kept (set h.kept (m.sender - 1) (Some x)) (AllByRecursion (λ o. any_there estimate_fits o ≡ true)) (λ _. s.kept)
                  (λ _. All-set (λ o. any_there estimate_fits o ≡ true) h.kept (m.sender - 1) (Some x) (kind_estimate m.kind m.round m.reading m.stamp (says f) is) s.kept);
            };
        quiet = λ _. tt;
      }

      join_fine : is_decide m.kind ≡ false → Fine 0 (remember (join m) (still h))
      join_fine other = record {
        base = heard_base other;
        few = omega arith;
        sane = sane;
        quiet = λ _. tt;
      }

      accept_fine : is_decide m.kind ≡ false → is_new_estimate m.kind ≡ true → is_waiting y.phase ≡ true → Fine 2 (accept p m (still h))
      accept_fine other is waits =
          let r = y.round in
          let x = remember (adopt m) (still h) in
          let a = addressed (ack p r) m.sender in
          let in_it : F → Sane y = λ f. sane f (waiting_active y.phase waits) in
          let v : F → Reading m.reading = λ f. kind_new_estimate m.kind m.round m.reading m.stamp (says f) is in
          let w = pair_base m.reading r x tt (λ f. fit_pair m.reading r (v f) (in_it f).round.1) (heard_base other) in
          let z = send_base a (write CellName.Pair m.reading r x)
          (λ f. let o = from_other f in may_send a refl o.0 o.1 o.2 (let now = (in_it f).round in grind (arith, nat_tests))) w in
          record {
            base = z;
            few = omega arith;
            sane = λ f _. let s = in_it f in record { round = s.round; reading = v f; stamp = s.round.1; kept = s.kept };
            quiet = λ j. absurd (false≢true j);
          }

      meet_fine : is_decide m.kind ≡ false → Fine 18 (meet n p enough m (still h))
      meet_fine other =
          cond_both (is_gathering y.phase && is_estimate m.kind) (settle n p enough (remember (keep m) (still h))) _ (Fine 18)
          (λ i. settle_fine 0 (remember (keep m) (still h)) (keep_fine other (grind arith)))
          (λ _. cond_both (is_confirming y.phase && is_ack m.kind) (settle n p enough (remember (join m) (still h))) _ (Fine 18)
          (λ i. settle_fine 0 (remember (join m) (still h)) (join_fine other))
          (λ _. cond_both (is_waiting y.phase && is_new_estimate m.kind && eqb m.sender (coordinator n y.round)) (accept p m (still h)) (still h) (Fine 18)
          (λ i.
          fine_more 2 18 _ (omega arith) (accept_fine other (grind arith) (grind arith)))
          (λ _. fine_more 0 18 _ (omega arith) (heard_fine other))))

      reply_fine : (d : Option Content) → is_done y.phase ≡ true → (F → sound 4 d ≡ true) → Fine 18 (reply p d m (still y))
      reply_fine None done fit = record { base = b; few = omega arith; sane = sane; quiet = λ _. tt }
      reply_fine (Some d) done fit =
          let a = addressed (decide p d.number) m.sender in
          cond_both (is_decide m.kind) (still y) (post a (still y)) (Fine 18)
          (λ _. record { base = b; few = omega arith; sane = sane; quiet = λ _. tt })
          (λ _. record {
            base = record {
              pairs = refl;
              acts = λ f.
                  let o = from_other f in
                  (may_send a refl o.0 o.1 o.2 (let fits = fit f in grind (arith, nat_tests)), tt);
              heard = b.heard;
              epoch = b.epoch;
              last = b.last;
            };
            few = omega arith;
            sane = sane;
            quiet = λ j. absurd (grind (arith, nat_tests));
          })

      learn_fine : is_decide m.kind ≡ true → Fine 18 (learn m (still y))
      learn_fine is =
          let w = write_base CellName.Decision m.reading 0 (still y) refl (λ f. fit_decision m.reading (kind_decide m.kind m.round m.reading m.stamp (says f) is)) b in
          record {
            base = w;
            few = omega arith;
            sane = λ f j. absurd (false≢true j);
            quiet = λ j. absurd (false≢true j);
          }

      deliver_fine : (d : Option Content) → (F → sound 4 d ≡ true) → Fine 18 (deliver n p enough d m (still y))
      unfolding deliver
      deliver_fine d fit =
          cond_both (is_done y.phase) (reply p d m (still y)) _ (Fine 18) (λ done. reply_fine d done fit)
          (λ _. cond_both (is_decide m.kind) (learn m (still y)) (heed n p enough m (still y)) (Fine 18) learn_fine
          (λ other. cond_both (eqb m.round y.round) (meet n p enough m (still h)) (still h) (Fine 18) (λ _. meet_fine other) (λ _. fine_more 0 18 _ (omega arith) (heard_fine other))))

    -- look
    abbrev IfFine : Result Step NoRound → Type 0
    IfFine (Ok s) = (k : ℕ) → 27 ≤ k → Fine k s
    IfFine (Err e) = Unit {0}

    look_fine : (list : List (Option ℕ)) (y : Memory) → (F → epochs_fit list ≡ true) → (F → is_active y.phase ≡ true) → Base (still y) → (F → is_active y.phase ≡ true → Sane y) → IfFine (look n p enough list y)
    unfolding look
    look_fine list y fit active b sane =
        let e = epoch_of list (coordinator n y.round) in
        let stays : (z : Memory) → Base (still z) → (F → is_active z.phase ≡ true → Sane z) → (k : ℕ) → 27 ≤ k → Fine k (still z) =
        λ z zb zs k l. record { base = zb; few = omega arith; sane = zs; quiet = λ _. tt } in
        cond_both (trusts_some list) _ (Ok (still y)) IfFine
        (λ _. cond_both (must_leave e y) (go_on n p enough y (next_round n list y)) (Ok (still (note e y))) IfFine
        (λ _. goes (next_round n list y) (least_next n list y n1))
        (λ _. stays (note e y)
        (record {
          pairs = refl;
          acts = λ _. tt;
          heard = b.heard;
          epoch = λ f. cond_both (is_some y.epoch) y.epoch e (λ (o : Option ℕ). any_there (λ k. leb k 999999) o ≡ true) (λ _. b.epoch f) (λ _. epoch_fits list (coordinator n y.round - 1) (fit f));
          last = b.last;
        })
        sane))
        (λ _. stays y b sane)
      where
        goes : (o : Option ℕ) → Least (may_enter n list y) o → IfFine (go_on n p enough y o)
        goes None l = tt
        goes (Some r) (may, least) = λ k long.
            let in_it : F → Sane y = λ f. sane f (active f) in
            fine_more 27 k _ long
            (enter_fine 0 r (still y) (λ _. (grind (arith, nat_tests), grind (arith, nat_tests))) b (omega arith) tt (λ f. (in_it f).reading) (λ f. (in_it f).stamp))

  -- what holds at the start, and what it comes to at the end
  base_of : (y : Memory) → (F → memory_fits N p y ≡ true) → Base (still y)
  base_of y fits = record {
    pairs = refl;
    acts = λ _. tt;
    heard = λ f. let e = fits f in grind (arith, nat_tests);
    epoch = λ f. let e = fits f in grind (arith, nat_tests);
    last = λ f. all_of (any_there (last_fits N p)) y.last (let e = fits f in grind (arith, nat_tests));
  }

  sane_of : (y : Memory) → (F → memory_fits N p y ≡ true) → F → is_active y.phase ≡ true → Sane y
  sane_of y fits f i = of_round_fits y (let e = fits f in grind (arith, nat_tests))

  lawful_of : (k : ℕ) (s : Step) → Base s → length s.acts ≤ k → (F → is_active s.memory.phase ≡ true → Sane s.memory) → Lawful F N p k s
  lawful_of k s b few sane = record {
    few = few;
    pairs = b.pairs;
    ranges = λ f. (every_of (act_fits N p) s.acts (b.acts f), whole f);
  }
    where
      whole : F → memory_fits N p s.memory ≡ true
      whole f =
          let heard = b.heard f in
          let epoch = b.epoch f in
          let last = every_of (any_there (last_fits N p)) s.memory.last (b.last f) in
          let round : is_active s.memory.phase ≡ true → round_fits s.memory ≡ true = λ i. to_round_fits s.memory (sane f i) in
          grind (arith, nat_tests)

  lawful_fine : (k : ℕ) (s : Step) → Fine k s → Lawful F N p k s
  lawful_fine k s f = lawful_of k s f.base f.few f.sane

  -- ---- each public step
  module _ (enough : List Bool → Bool) where
    pub propose_lawful : (v : ℕ) (y : Memory) (s : Step) → s ≡ propose n p enough v (still y) → (F → memory_fits N p y ≡ true) → (F → is_reading v ≡ true) → Lawful F N p 28 s
    propose_lawful v y s is fits reads =
        subst (Lawful F N p 28) (sym is)
        (lawful_fine 28 (propose n p enough v (still y)) (propose_fine enough v y (λ f. let e = reads f in grind (arith, nat_tests)) (base_of y fits)))

    pub recover_lawful : (cs : OwnCells) (s : Step) → s ≡ recover n p enough cs → (F → (sound 1 cs.proposal ≡ true) × (sound 2 cs.round ≡ true) × (sound 3 cs.pair ≡ true)) → Lawful F N p 27 s
    recover_lawful cs s is fits = subst (Lawful F N p 27) (sym is) (lawful_fine 27 (recover n p enough cs) (recover_fine enough cs fits))

    pub look_lawful : (list : List (Option ℕ)) (y : Memory) (r : Result Step NoRound) → r ≡ look n p enough list y
        → (F → memory_fits N p y ≡ true) → (F → is_active y.phase ≡ true) → (F → epochs_fit list ≡ true) → LookLawful F N p 27 r
    look_lawful list y r is fits active epochs =
        subst (LookLawful F N p 27) (sym is) (come (look n p enough list y) (look_fine enough list y epochs active (base_of y fits) (sane_of y fits)))
      where
        come : (r : Result Step NoRound) → IfFine enough r → LookLawful F N p 27 r
        come (Ok s) f = lawful_fine 27 s (f 27 (omega arith))
        come (Err e) f = tt

    pub again_lawful : (y : Memory) (s : Step) → length y.last ≤ 9 → s ≡ again y → (F → memory_fits N p y ≡ true) → Lawful F N p 27 s
    again_lawful y s short is fits =
        subst (Lawful F N p 27) (sym is) (lawful_of 27 (again y) (again_base enough y (base_of y fits)) (omega (arith, resend_few y.last)) (sane_of y fits))

    pub deliver_lawful : (m : Message) (y : Memory) (d : Option Content) (s : Step) → m.addressee ≡ p → s ≡ deliver n p enough d m (still y)
        → (F → memory_fits N p y ≡ true) → (F → well_formed n m ≡ true) → (F → sound 4 d ≡ true) → Lawful F N p 27 s
    deliver_lawful m y d s to is fits well cell =
        subst (Lawful F N p 27) (sym is)
        (lawful_fine 27 (deliver n p enough d m (still y)) (fine_more 18 27 _ (omega arith) (deliver_fine enough m y to well (base_of y fits) (sane_of y fits) d cell)))
