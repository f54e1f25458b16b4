-- What holds of weighed sets; a majority is weights of one.
use Rattle.std.specs.Prelude.{◌≡◌, ℕ, zero, suc, ◌+◌, ◌*◌, ◌<◌, ◌≤◌, Bool, true, false, cond, ◌&&◌, List, [], ◌∷◌, ◌++◌, length, take, replicate, map, filter, zip, nat_le, nat_lt, slice_index, refl}
use Rattle.std.proofs.Common.{sym, ap, ◌∙◌, zero-add, arith}
use Rattle.std.proofs.Math.Bool.{and-true, and_assoc}
use Rattle.std.proofs.lemmas.List.{get_or-replicate, length-replicate, length-take, length-take-le, take_more}
use Rattle.std.proofs.lemmas.List.Sums.{sum_by-cons}
use Rattle.std.proofs.lemmas.Bool.{and_left, and_right, ltb-true, lt-ltb, lt-leb, false≢true}
use Rattle.quorum.specs.Laws.{has, Shares, Grows, Whole}
use Rattle.quorum.specs.Rules.{members, majority, total, weight, heavy, light}

-- one weight more, in front
pub total_cons : (w : ℕ) (ws : List ℕ) → total (w ∷ ws) ≡ w + total ws
total_cons w ws = sum_by-cons (λ x. x) w ws

members_cons : (b : Bool) (s : List Bool) → members (b ∷ s) ≡ cond b 1 0 + members s
members_cons b s = sum_by-cons (λ x. cond x 1 0) b s

weight_cons : (w : ℕ) (ws : List ℕ) (b : Bool) (s : List Bool) → weight (w ∷ ws) (b ∷ s) ≡ cond b w 0 + weight ws s
weight_cons w ws true s = sum_by-cons (λ x. x) w (map (λ p. p.0) (filter (λ p. p.1) (zip ws s)))
weight_cons w ws false s = sym (zero-add (weight ws s))

cond_le : (b : Bool) (w : ℕ) → cond b w 0 ≤ w
cond_le true w = omega arith
cond_le false w = omega arith

pub weight_le : (ws : List ℕ) (s : List Bool) → weight ws s ≤ total ws
weight_le [] s = omega arith
weight_le (w ∷ ws) [] = omega arith
weight_le (w ∷ ws) (b ∷ s) = omega (arith, weight_le ws s, cond_le b w, weight_cons, total_cons)

-- a process of both sets
abbrev Common : ℕ → List Bool → List Bool → Type 0
Common n a b = (k : ℕ) × (k < n) × (has a k ≡ true) × (has b k ≡ true)

later : (n : ℕ) (x y : Bool) (a b : List Bool) → Common n a b → Common (suc n) (x ∷ a) (y ∷ b)
later n x y a b (k, below, in_a, in_b) = (suc k, omega arith, in_a, in_b)

-- two sets that together weigh more than the total share a process
overlap : (ws : List ℕ) (a b : List Bool) → total ws < weight ws a + weight ws b → Common (length ws) a b
overlap [] a b h = absurd (omega arith)
overlap (w ∷ ws) [] b h = absurd (omega (arith, weight_le (w ∷ ws) b))
overlap (w ∷ ws) (x ∷ a) [] h = absurd (omega (arith, weight_le (w ∷ ws) (x ∷ a)))
overlap (w ∷ ws) (true ∷ a) (true ∷ b) h = (0, omega arith, refl, refl)
overlap (w ∷ ws) (true ∷ a) (false ∷ b) h = later (length ws) true false a b (overlap ws a b (omega (arith, weight_cons, total_cons)))
overlap (w ∷ ws) (false ∷ a) (y ∷ b) h = later (length ws) false y a b (overlap ws a b (omega (arith, cond_le y w, weight_cons, total_cons)))

cond_mono : (x y : Bool) (w : ℕ) → (x ≡ true → y ≡ true) → cond x w 0 ≤ cond y w 0
cond_mono true true w h = omega arith
cond_mono true false w h = absurd (false≢true (h refl))
cond_mono false y w h = omega arith

weight_none : (ws : List ℕ) → weight ws [] ≡ 0
weight_none [] = refl
weight_none (w ∷ ws) = refl

weight_mono : (ws : List ℕ) (a b : List Bool) → ((k : ℕ) → k < length ws → has a k ≡ true → has b k ≡ true) → weight ws a ≤ weight ws b
weight_mono [] a b h = omega arith
weight_mono (w ∷ ws) [] b h = omega arith
weight_mono (w ∷ ws) (x ∷ a) [] h =
    omega (arith, cond_mono x false w (h 0 (omega arith)), weight_mono ws a [] (λ k l. h (suc k) (omega arith)), weight_none ws, weight_cons)
weight_mono (w ∷ ws) (x ∷ a) (y ∷ b) h =
    omega (arith, cond_mono x y w (h 0 (omega arith)), weight_mono ws a b (λ k l. h (suc k) (omega arith)), weight_cons)

weight_all : (ws : List ℕ) (a : List Bool) → ((k : ℕ) → k < length ws → has a k ≡ true) → weight ws a ≡ total ws
weight_all [] a h = refl
weight_all (w ∷ ws) [] h = absurd (false≢true (h 0 (omega arith)))
weight_all (w ∷ ws) (x ∷ a) h =
    omega (arith, weight_all ws a (λ k l. h (suc k) (omega arith)), cond_mono true x w (λ e. h 0 (omega arith)), cond_le x w, weight_cons, total_cons)

-- the first n of a list are at most n
pub front_fits : (n : ℕ) (ws : List ℕ) → length (take n ws) ≤ n
front_fits n ws = omega (arith, length-take {A = ℕ} n ws)

-- the laws of every rule by weights
module _ (n : ℕ) (ws : List ℕ) (fits : length ws ≤ n) where
  pub heavy_shares : Shares n (heavy ws)
  heavy_shares a b p q =
      let (k, below, in_a, in_b) = overlap ws a b (omega (arith, ltb-true _ _ p, ltb-true _ _ q)) in
      (k, omega arith, in_a, in_b)

  pub heavy_grows : Grows n (heavy ws)
  heavy_grows a b sub p =
      lt-ltb _ _ (omega (arith, ltb-true _ _ p, weight_mono ws a b (λ k l. sub k (omega arith))))

  pub heavy_whole : 0 < total ws → Whole n (heavy ws)
  heavy_whole some a all = lt-ltb _ _ (omega (arith, weight_all ws a (λ k l. all k (omega arith))))

-- each of n processes weighs one
abbrev ones : ℕ → List ℕ
ones n = replicate n 1

total_ones : (n : ℕ) → total (ones n) ≡ n
total_ones zero = refl
total_ones (suc n) = omega (arith, total_ones n, total_cons)

weight_ones : (n : ℕ) (s : List Bool) → weight (ones n) s ≡ members (take n s)
weight_ones zero s = refl
weight_ones (suc n) [] = refl
weight_ones (suc n) (b ∷ s) = omega (arith, weight_ones n s, weight_cons, members_cons)

-- a majority is enough by weights of one
heavy_ones : (n : ℕ) (s : List Bool) → heavy (ones n) s ≡ majority n s
heavy_ones n s = ap (λ k. nat_lt k (2 * weight (ones n) s)) (total_ones n) ∙ ap (λ k. nat_lt n (2 * k)) (weight_ones n s)

-- the laws of the majority
module _ (n : ℕ) where
  fits_ones : length (ones n) ≤ n
  fits_ones = omega (arith, length-replicate {A = ℕ} n 1)

  pub majority_shares : Shares n (majority n)
  majority_shares a b p q = heavy_shares n (ones n) fits_ones a b (heavy_ones n a ∙ p) (heavy_ones n b ∙ q)

  pub majority_grows : Grows n (majority n)
  majority_grows a b sub p = sym (heavy_ones n b) ∙ heavy_grows n (ones n) fits_ones a b sub (heavy_ones n a ∙ p)

  pub majority_whole : 1 ≤ n → Whole n (majority n)
  majority_whole some a all = sym (heavy_ones n a) ∙ heavy_whole n (ones n) fits_ones (omega (arith, total_ones n)) a all

-- one process more, at the end
weight_push : (ws : List ℕ) (w : ℕ) (s : List Bool) → weight (ws ++ (w ∷ [])) s ≡ weight ws s + cond (has s (length ws)) w 0
weight_push [] w [] = refl
weight_push [] w (b ∷ s) = omega (arith, weight_cons w [] b s)
weight_push (v ∷ ws) w [] = refl
weight_push (v ∷ ws) w (b ∷ s) = omega (arith, weight_push ws w s, weight_cons v (ws ++ (w ∷ [])) b s, weight_cons v ws b s)

pub weight_more : (ws : List ℕ) (i : ℕ) (s : List Bool) → i < length ws → weight (take (i + 1) ws) s ≡ weight (take i ws) s + cond (has s i) (slice_index ws i) 0
weight_more ws i s h =
    ap (λ l. weight l s) (take_more ws i 0 h) ∙ weight_push (take i ws) (slice_index ws i) s
    ∙ ap (λ k. weight (take i ws) s + cond (has s k) (slice_index ws i) 0) (length-take-le i ws (omega arith))

members_push : (s : List Bool) (b : Bool) → members (s ++ (b ∷ [])) ≡ members s + cond b 1 0
members_push [] b = omega (arith, members_cons b [])
members_push (x ∷ s) b = omega (arith, members_push s b, members_cons x (s ++ (b ∷ [])), members_cons x s)

pub members_more : (s : List Bool) (i : ℕ) → i < length s → members (take (i + 1) s) ≡ members (take i s) + cond (has s i) 1 0
members_more s i h = ap members (take_more s i false h) ∙ members_push (take i s) (has s i)

-- the set of the first m
pub weight_full : (m : ℕ) (ws : List ℕ) → length ws ≤ m → weight ws (replicate m true) ≡ total ws
weight_full m ws h = weight_all ws (replicate m true) (λ k l. get_or-replicate m k true false (omega arith))

light_push : (ws : List ℕ) (w : ℕ) → light (ws ++ (w ∷ [])) ≡ (light ws && nat_le w 99)
light_push [] w = and-true (nat_le w 99)
light_push (v ∷ ws) w = ap (λ b. nat_le v 99 && b) (light_push ws w) ∙ sym (and_assoc (nat_le v 99) (light ws) (nat_le w 99))

pub light_more : (ws : List ℕ) (i : ℕ) → i < length ws → light (take (i + 1) ws) ≡ (light (take i ws) && nat_le (slice_index ws i) 99)
light_more ws i h = ap light (take_more ws i 0 h) ∙ light_push (take i ws) (slice_index ws i)

-- a weight above 99 among them
pub light_not : (ws : List ℕ) (i : ℕ) → i < length ws → 99 < slice_index ws i → light ws ≡ false
light_not [] i l h = absurd (omega arith)
light_not (w ∷ ws) zero l h = and_left (nat_le w 99) (light ws) (lt-leb w 99 h)
light_not (w ∷ ws) (suc i) l h = and_right (nat_le w 99) (light ws) (light_not ws i (omega arith) h)
