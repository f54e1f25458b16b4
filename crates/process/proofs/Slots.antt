-- Lists with a slot for each process: the loops over what is there, and a memory of defaults.
use Rattle.std.proofs.Common.{◌≡◌, ℕ, ◌+◌, ◌<◌, ◌≤◌, Bool, false, List, [], ◌∷◌, ◌++◌, length, get_or, replicate, take, Some, None, Option, sym, refl, ap, ◌∙◌, subst, arith, rules}
use denote.Bor.{Bor}
use Rattle.std.proofs.iter.Next.{Yields-more}
use Rattle.std.proofs.iter.Yields.{fronts}
use Rattle.std.proofs.lemmas.Iterator.{YieldsList, YieldsList-from_slice}
use Rattle.std.proofs.lemmas.Iterator.Adapters.{YieldsList-from_flatten}
use Rattle.std.proofs.lemmas.Iterator.Consumers.{YieldsList-so_far}
use Rattle.std.proofs.lemmas.List.{flat_map_more, same_lists, length_push, length-append, length-map, length-take, length-replicate, get_or-replicate, take_more}
use Rattle.std.proofs.lemmas.Option.{none-some, same_Some}
use Rattle.std.specs.Array.{AllOfLen}
use Rattle.std.specs.Bool.{MatchBool}
use Rattle.std.specs.Iterator.{Yields}
use Rattle.std.specs.Iterator.Adapters.{flatten_back, flatten_done, flatten_front, flatten_source, flatten_steps, option_iter_done, option_iter_item, option_iter_steps}
use Rattle.std.specs.List.{flat_map}
use Rattle.std.specs.Option.{option_to_list}
use Rattle.std.specs.Slice.Iter.{iter_rest}
use Rattle.tray.specs.declared.kinds.Estimate.{Estimate}
use Rattle.process.specs.declared.message.Message.{Message}
use Rattle.process.specs.declared.memory.Action.{Action}
use Rattle.process.specs.declared.memory.Memory.{Memory}
use Rattle.process.specs.declared.memory.Phase.{Phase}
use Rattle.process.specs.Meetings.{resend}
use Rattle.process.specs.Rounds.{blank}

-- a slot gives what is there
pub slot_gives : {X : Type 0} (j : _) (o : Option X) → option_iter_item j ≡ o → option_iter_done j ≡ false → YieldsList (option_iter_steps {A = X}) (λ y. y.now) j (option_to_list o)
slot_gives j None is fresh = record {
  runs = λ x k step. none-some x.now (sym (subst (λ b. MatchBool b (Some x ≡ None) (Some x.now ≡ option_iter_item j)) fresh step.1 ∙ is));
}
slot_gives {X} j (Some y) is fresh = record {
  runs = (
    λ k step. none-some y (subst (λ b. MatchBool b (◌≡◌ {A = Option (Bor X)} None None) (◌≡◌ {A = Option X} None (option_iter_item j))) fresh step.1 ∙ is),
    λ x k step. (
      same_Some x.now y (subst (λ b. MatchBool b (Some x ≡ None) (Some x.now ≡ option_iter_item j)) fresh step.1 ∙ is),
      λ z l more. none-some z (sym (search rules)),
    ),
  );
}

-- a list of slots, flattened, gives what is there in order
pub slots_give : {X J : Type 0} {s : _} (becomes : Bor (Option X) → J → Type 0) (inner : J → Option (Bor X) → J → Type 0) (os : List (Option X))
    → ((x : Bor (Option X)) (j : J) → becomes x j → YieldsList inner (λ y. y.now) j (option_to_list x.now))
    → iter_rest (flatten_source s) ≡ os → flatten_front s ≡ None → flatten_back s ≡ None → flatten_done s ≡ false
    → YieldsList (flatten_steps fronts becomes inner) (λ y. y.now) s (flat_map option_to_list os)
slots_give becomes inner os each is = YieldsList-from_flatten becomes inner (λ y. y.now) option_to_list each (YieldsList-from_slice os is)

pub few_there : {X : Type 0} (os : List (Option X)) → length (flat_map option_to_list os) ≤ length os
few_there [] = omega arith
few_there (None ∷ os) = omega (arith, few_there os)
few_there (Some x ∷ os) = omega (arith, few_there os)

-- while an item comes, fewer have come than there are
pub more_to_come : {S A B : Type 0} {steps : S → Option A → S → Type 0} {v : A → B} {s : S} {all : List B} → YieldsList steps v s all
    → (xs : List A) (t : S) (x : A) (u : S) → Yields steps s xs t → steps t (Some x) u → length xs < length all
more_to_come {steps = steps} {v = v} {s = s} {all = all} gives xs t x u came next =
    let so = YieldsList-so_far gives (xs ++ x ∷ []) u (Yields-more steps s xs t x u came next) in
    omega (arith, ap length so, length_push xs x, length-map (xs ++ x ∷ []) v, length-take (length (xs ++ x ∷ [])) all)

resend_short : (o : Option Message) → length (resend o) ≤ 1
resend_short None = omega arith
resend_short (Some m) = omega arith

-- one slot more of the last messages: what a turn of the loop did
module _ (last : List (Option Message)) (i : ℕ) (old new : List Action) (o : Option Message) (within : i < length last) (is : get_or last i None ≡ o)
    (so : old ≡ flat_map resend (take i last)) (short : length old ≤ i) (step : new ≡ old ++ resend o) where
  pub resends_more : (new ≡ flat_map resend (take (i + 1) last)) × (length new ≤ i + 1)
  resends_more = (
    step ∙ ap (λ l. l ++ resend o) so ∙ flat_map_more resend [] (take i last) o ∙ ap (flat_map resend) (sym (take_more last i None within ∙ ap (λ x. take i last ++ (x ∷ [])) is)),
    rw step (simp length-append (omega (arith, resend_short o))),
  )

-- a list of defaults
replicate_of : {A : Type 0} (x : A) (xs : List A) (n : ℕ) → AllOfLen (λ y. y ≡ x) xs n → xs ≡ replicate n x
replicate_of x xs n h =
    same_lists xs (replicate n x) (h.long ∙ sym (length-replicate n x))
    (λ k d l. h.at k d (omega (arith, h.long)) ∙ sym (get_or-replicate n k x d (omega (arith, h.long))))

of_fields : (f : Phase) (r e t h : ℕ) (o : Option ℕ) (k : List (Option Estimate)) (a : List Bool) (l : List (Option Message))
    → f ≡ Phase.Idle → r ≡ 0 → e ≡ 0 → t ≡ 0 → h ≡ 0 → o ≡ None → k ≡ replicate 9 None → a ≡ replicate 9 false → l ≡ replicate 9 None
    → ◌≡◌ {A = Memory} (record { phase = f; round = r; reading = e; stamp = t; heard = h; epoch = o; kept = k; acknowledgers = a; last = l }) blank
of_fields f r e t h o k a l p0 p1 p2 p3 p4 p5 p6 p7 p8 = rw (p0, p1, p2, p3, p4, p5, p6, p7, p8) refl

-- a memory of defaults
pub blank_of : (y : Memory)
    → (y.phase ≡ Phase.Idle) × ((y.round ≡ 0) × ((y.reading ≡ 0) × ((y.stamp ≡ 0) × ((y.heard ≡ 0) × ((y.epoch ≡ None)
    × (AllOfLen (λ x. x ≡ None) y.kept 9 × (AllOfLen (λ x. x ≡ false) y.acknowledgers 9 × AllOfLen (λ x. x ≡ None) y.last 9)))))))
    → y ≡ blank
blank_of y (phase, (round, (reading, (stamp, (heard, (epoch, (kept, (acknowledgers, last)))))))) =
    of_fields y.phase y.round y.reading y.stamp y.heard y.epoch y.kept y.acknowledgers y.last phase round reading stamp heard epoch
    (replicate_of None y.kept 9 kept) (replicate_of false y.acknowledgers 9 acknowledgers) (replicate_of None y.last 9 last)
