-- The best kept estimate is one of them, and none has a greater stamp; a sender has its estimate.
use Rattle.std.proofs.Common.{◌≡◌, ℕ, zero, suc, ◌≤◌, true, false, ◌&&◌, eqb, ltb, leb, List, [], ◌∷◌, map, get_or, is_some, Some, None, Option, refl, ⊎_elim, arith}
use Rattle.std.specs.Option.{option_to_list}
use Rattle.std.specs.List.{flat_map, AllByRecursion}
use Rattle.std.proofs.lemmas.Bool.{and_parts, eqb-true, ltb-true, or_cases}
use Rattle.std.proofs.lemmas.Bool.Decides.{nat_tests}
use Rattle.tray.specs.declared.kinds.Estimate.{Estimate}
use Rattle.tray.specs.Kinds.{prefers_estimate}
use Rattle.tray.proofs.Bests.{best_in, best_tops}
use Rattle.process.specs.Rounds.{best_kept}

-- what holds of each kept one, by its place and in the list of them
index_all : (P : Estimate → Type 0) (ks : List (Option Estimate)) → ((i : ℕ) (e : Estimate) → get_or ks i None ≡ Some e → P e) → AllByRecursion P (flat_map option_to_list ks)
index_all P [] h = tt
index_all P (None ∷ ks) h = index_all P ks (λ i. h (suc i))
index_all P (Some e ∷ ks) h = (h 0 e refl, index_all P ks (λ i. h (suc i)))

pub kept_in : (P : Estimate → Type 0) (ks : List (Option Estimate)) → ((i : ℕ) (e : Estimate) → get_or ks i None ≡ Some e → P e) → (b : Estimate) → best_kept ks ≡ Some b → P b
kept_in P ks h b e = best_in prefers_estimate P (flat_map option_to_list ks) b (index_all P ks h) e

-- a preferred estimate has no smaller stamp
preferred : (b x : Estimate) → prefers_estimate b x ≡ true → x.stamp ≤ b.stamp
preferred b x e =
    ⊎_elim (λ h. let l = ltb-true x.stamp b.stamp h in omega arith)
    (λ h. let s = eqb-true b.stamp x.stamp (and_parts (eqb b.stamp x.stamp) (leb b.sender x.sender) h).0 in omega arith)
    (or_cases (ltb x.stamp b.stamp) (eqb b.stamp x.stamp && leb b.sender x.sender) e)

total : (x y : Estimate) → prefers_estimate x y ≡ false → prefers_estimate y x ≡ true
total x y e = grind (arith, nat_tests)

transitive : (x y z : Estimate) → prefers_estimate x y ≡ true → prefers_estimate y z ≡ true → prefers_estimate x z ≡ true
transitive x y z e f = grind (arith, nat_tests)

abbrev pub Below : Option Estimate → Estimate → Type 0
Below None b = Unit {0}
Below (Some e) b = e.stamp ≤ b.stamp

all_below : (ks : List (Option Estimate)) (b : Estimate) → AllByRecursion (λ x. prefers_estimate b x ≡ true) (flat_map option_to_list ks) → (i : ℕ) → Below (get_or ks i None) b
all_below [] b h i = tt
all_below (None ∷ ks) b h zero = tt
all_below (None ∷ ks) b h (suc i) = all_below ks b h i
all_below (Some e ∷ ks) b h zero = preferred b e h.0
all_below (Some e ∷ ks) b h (suc i) = all_below ks b h.1 i

pub kept_above : (ks : List (Option Estimate)) (b : Estimate) → best_kept ks ≡ Some b → (i : ℕ) → Below (get_or ks i None) b
kept_above ks b e = all_below ks b (best_tops prefers_estimate total transitive (flat_map option_to_list ks) b e)

is_there : (o : Option Estimate) → is_some o ≡ true → (e : Estimate) × (o ≡ Some e)
is_there None e = cc
is_there (Some x) e = (x, refl)

pub sender_at : (ks : List (Option Estimate)) (k : ℕ) → get_or (map is_some ks) k false ≡ true → (e : Estimate) × (get_or ks k None ≡ Some e)
sender_at [] k e = cc
sender_at (x ∷ xs) zero e = is_there x e
sender_at (x ∷ xs) (suc k) e = sender_at xs k e
