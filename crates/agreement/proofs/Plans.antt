-- Actions that may be done, put together.
use Rattle.std.proofs.Common.{◌≡◌, ℕ, zero, suc, ◌-◌, ◌≤◌, eqb, List, [], ◌∷◌, ◌++◌, get_or, take, set, replicate, Some, None, Option, sym, refl, ap, subst, arith}
use Rattle.std.proofs.lemmas.Bool.{cond_both}
use Rattle.store.specs.Cells.{Cells}
use Rattle.process.specs.declared.message.Message.{Message}
use Rattle.process.specs.declared.memory.Action.{Action}
use Rattle.process.specs.declared.memory.Action.TheVariants.{Send}
use Rattle.process.specs.declared.memory.Memory.{Memory}
use Rattle.std.specs.List.{flat_map}
use Rattle.process.specs.Meetings.{resend}
use Rattle.process.specs.Rounds.{Step, addressed, send, to_all}
use Rattle.process.proofs.Sends.{relast, to_all_memory}
use Rattle.agreement.proofs.Facts.{Rule, Votes, Good, Sound, Lasting, votes_after, cells_after, Run}

-- what a place holds after a write to a place, and in a list of one value
pub at_set : {A : Type 0} (P : ℕ → A → Type 0) (xs : List A) (i j : ℕ) (x d : A) → P i x → P j (get_or xs j d) → P j (get_or (set xs i x) j d)
at_set P [] i j x d h k = k
at_set P (y ∷ ys) zero zero x d h k = h
at_set P (y ∷ ys) zero (suc j) x d h k = k
at_set P (y ∷ ys) (suc i) zero x d h k = k
at_set P (y ∷ ys) (suc i) (suc j) x d h k = at_set (λ n. P (suc n)) ys i j x d h k

-- the same, where only other places hold what they held
pub at_put : {A : Type 0} (P : ℕ → A → Type 0) (xs : List A) (i j : ℕ) (x d : A) → P j d → (j ≡ i → P j x) → ((j ≡ i → ⊥) → P j (get_or xs j d)) → P j (get_or (set xs i x) j d)
at_put P [] i j x d n h k = n
at_put P (y ∷ ys) zero zero x d n h k = h refl
at_put P (y ∷ ys) zero (suc j) x d n h k = k (λ e. omega arith)
at_put P (y ∷ ys) (suc i) zero x d n h k = k (λ e. omega arith)
at_put P (y ∷ ys) (suc i) (suc j) x d n h k = at_put (λ n. P (suc n)) ys i j x d n (λ e. h (ap suc e)) (λ f. k (λ e. f (omega arith)))

pub at_replicate : {A : Type 0} (n i : ℕ) (d : A) → get_or (replicate n d) i d ≡ d
at_replicate zero i d = refl
at_replicate (suc n) zero d = refl
at_replicate (suc n) (suc i) d = at_replicate n i d

pub suc_less : (q : ℕ) → 1 ≤ q → suc (q - 1) ≡ q
suc_less q h = omega arith

module _ (R : Rule) (p : ℕ) where
  run_append : (P : Votes → Cells → Type 0) (xs ys : List Action) (V : Votes) (C : Cells)
      → Run R (λ W D. Run R P p ys W D) p xs V C → Run R P p (xs ++ ys) V C
  run_append P [] ys V C h = h
  run_append P (a ∷ xs) ys V C h = (h.0, λ S g. run_append P xs ys (votes_after R V p a) (cells_after R C p a) (h.1 S g))

  pub run_weaker : {P Q : Votes → Cells → Type 0} → ((W : Votes) (D : Cells) → Sound R W D → P W D → Q W D)
      → (xs : List Action) {V : Votes} {C : Cells} → Sound R V C → Run R P p xs V C → Run R Q p xs V C
  run_weaker f [] {V} {C} S h = f V C S h
  run_weaker f (a ∷ xs) S h = (h.0, λ S' g. run_weaker f xs S' (h.1 S' g))

  -- actions, and then others
  pub run_then : {P : Votes → Cells → Type 0} (Q : Votes → Cells → Type 0) (xs ys : List Action) {V : Votes} {C : Cells} → Sound R V C → Run R P p xs V C
      → ((W : Votes) (D : Cells) → Sound R W D → P W D → Run R Q p ys W D) → Run R Q p (xs ++ ys) V C
  run_then Q xs ys {V} {C} S h f = run_append Q xs ys V C (run_weaker f xs S h)

  pub run_take : (P : Votes → Cells → Type 0) (k : ℕ) (xs : List Action) (V : Votes) (C : Cells) → Run R P p xs V C → Run R (λ W D. Unit {0}) p (take k xs) V C
  run_take P zero xs V C h = tt
  run_take P (suc k) [] V C h = tt
  run_take P (suc k) (a ∷ xs) V C h = (h.0, λ S g. run_take P k xs (votes_after R V p a) (cells_after R C p a) (h.1 S g))

  pub noted_good : {V : Votes} {C : Cells} (m : Message) (last : List (Option Message)) → Lasting R V C last → Good R V C m → Lasting R V C (set last (m.addressee - 1) (Some m))
  noted_good {V} {C} m last h k i m' =
      at_set (λ _ o. o ≡ Some m' → Good R V C m') last (m.addressee - 1) i (Some m) None
      (λ e. let z : m ≡ m' = cc in subst (λ x. Good R V C x) z k) (h i m')

  -- a message sent to all, good to whomever it goes
  pub to_all_runs : (P : Votes → Cells → Type 0) (k : ℕ) (m : Message) (s : Step) {V : Votes} {C : Cells} → Sound R V C
      → Run R (λ W D. P W D × Lasting R W D s.memory.last × ((q : ℕ) → Good R W D (addressed m q))) p s.acts V C
      → Run R (λ W D. P W D × Lasting R W D (to_all k m s).memory.last × ((q : ℕ) → Good R W D (addressed m q))) p (to_all k m s).acts V C
  to_all_runs P zero m s S h = h
  to_all_runs P (suc k) m s {V} {C} S h =
      cond_both (eqb (suc k) m.sender) (to_all k m s) (send (addressed m (suc k)) (to_all k m s))
      (λ u. Run R (λ W D. P W D × Lasting R W D u.memory.last × ((q : ℕ) → Good R W D (addressed m q))) p u.acts V C)
      (λ _. to_all_runs P k m s S h)
      (λ _. run_then _ (to_all k m s).acts (Send (addressed m (suc k)) ∷ []) S (to_all_runs P k m s S h)
      (λ W D S' a. (a.2 (suc k), λ S'' g. (a.0, noted_good (addressed m (suc k)) (to_all k m s).memory.last a.1 (a.2 (suc k)), a.2))))

  -- what then holds of the memory, if it holds whatever the last messages are
  pub to_all_ok : (Q : Votes → Cells → Memory → Type 0) (k : ℕ) (m : Message) (s : Step) {V : Votes} {C : Cells} → Sound R V C
      → Run R (λ W D. ((l : List (Option Message)) → Lasting R W D l → Q W D (relast l s.memory)) × Lasting R W D s.memory.last × ((q : ℕ) → Good R W D (addressed m q))) p s.acts V C
      → Run R (λ W D. Q W D (to_all k m s).memory) p (to_all k m s).acts V C
  to_all_ok Q k m s S h =
      run_weaker (λ W D S' a. subst (Q W D) (sym (to_all_memory k m s)) (a.0 (to_all k m s).memory.last a.1)) (to_all k m s).acts S
      (to_all_runs (λ W D. (l : List (Option Message)) → Lasting R W D l → Q W D (relast l s.memory)) k m s S h)

  -- the last messages sent once more
  pub repeats_ok : (P : Votes → Cells → Type 0) (last : List (Option Message)) {V : Votes} {C : Cells} → Lasting R V C last → P V C → Run R P p (flat_map resend last) V C
  repeats_ok P [] h k = k
  repeats_ok P (None ∷ os) h k = repeats_ok P os (λ i m e. h (suc i) m e) k
  repeats_ok P (Some m ∷ os) h k = (h 0 m refl, λ S g. repeats_ok P os (λ i m e. h (suc i) m e) k)
