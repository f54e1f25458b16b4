-- Numbers in columns.
use Rattle.std.proofs.Common.{◌≡◌, ℕ, zero, suc, ◌+◌, ◌*◌, ◌/◌, ◌^◌, ◌<◌, ◌≤◌, [], ◌∷◌, length, take, refl, ◌∙◌, add-zero, add-suc, pow-suc, arith, lit<}
use native.Mathlib.Nat.{pow-le-pow_right}
use Rattle.std.proofs.lemmas.List.{length-append, take-append-le, take_all, same_from_push}
use Rattle.printed.specs.Fields.{figure, leading, justified}

pub ten_pos : (k : ℕ) → 0 < 10 ^ k
ten_pos zero = lit< tt
ten_pos (suc k) = rw pow-suc (omega (arith, ten_pos k))

-- at most 8 figures
pub eight_figures : (n i : ℕ) → n < 10 ^ i → i ≤ 8 → n < 100000000
eight_figures n i h l = let p : 10 ^ i ≤ 10 ^ 8 = pow-le-pow_right {n = 10} (lit< tt) l in omega arith

pub length_leading : (w m : ℕ) → length (leading w m) ≡ w
length_leading zero m = refl
length_leading (suc w) m = simp length-append (omega (arith, length_leading w (m / 10)))

pub length_justified : (w n : ℕ) → length (justified w n) ≡ w
length_justified zero n = refl
length_justified (suc w) n = simp length-append (omega (arith, length_leading w (n / 10)))

-- a number is known from the tenth of it and its figure
pub same_figure : (m n : ℕ) → m / 10 ≡ n / 10 → figure m ≡ figure n → m ≡ n
same_figure m n d f = grind arith

pub tenth_below : (w m : ℕ) → m < 10 ^ suc w → m / 10 < 10 ^ w
tenth_below w m h = grind (arith, pow-suc)

pub same_leading : (w m n : ℕ) → m < 10 ^ w → n < 10 ^ w → leading w m ≡ leading w n → m ≡ n
same_leading zero m n hm hn e = omega arith
same_leading (suc w) m n hm hn e =
    let p = same_from_push (leading w (m / 10)) (leading w (n / 10)) (figure m) (figure n) e in
    same_figure m n (same_leading w (m / 10) (n / 10) (tenth_below w m hm) (tenth_below w n hn) p.0) p.1

-- the first i columns of a longer one
pub take_leading : (i j m : ℕ) → m < 10 ^ (i + j) → (n : ℕ) × (n < 10 ^ i) × (take i (leading (i + j) m) ≡ leading i n)
take_leading i zero m h = (m, rw add-zero at h, rw add-zero (take_all i (leading i m) (omega (arith, length_leading i m))))
take_leading i (suc j) m h =
    let p = take_leading i j (m / 10) (tenth_below (i + j) m (rw add-suc at h)) in
    (p.0, p.1, rw add-suc (take-append-le i (leading (i + j) (m / 10)) (figure m ∷ []) (omega (arith, length_leading (i + j) (m / 10))) ∙ p.2))

-- and each is the front of a longer one
pub more_leading : (i j n : ℕ) → n < 10 ^ i → (m : ℕ) × (m < 10 ^ (i + j)) × (take i (leading (i + j) m) ≡ leading i n)
more_leading i zero n h = (n, rw add-zero h, rw add-zero (take_all i (leading i n) (omega (arith, length_leading i n))))
more_leading i (suc j) n h =
    let p = more_leading i j n h in
    let m = p.0 in
    let t : m * 10 / 10 ≡ m = omega arith in
    (m * 10, rw (add-suc, pow-suc) (omega (arith, p.1)), rw (add-suc, t) (take-append-le i (leading (i + j) m) (figure (m * 10) ∷ []) (omega (arith, length_leading (i + j) m)) ∙ p.2))
