-- A field, read column by column.
use Rattle.std.proofs.Common.{◌≡◌, ℕ, zero, suc, ◌+◌, ◌-◌, ◌*◌, ◌/◌, ◌%◌, ◌^◌, ◌<◌, ◌≤◌, List, [], ◌∷◌, ◌++◌, length, get_or, take, Some, None, Err, Option, sym, refl, ap, ◌∙◌, subst, add-zero, add-suc, pow-suc, add-one, arith}
use Rattle.std.specs.List.{AllWithin, HoldsAt}
use Rattle.std.specs.Option.{ok_or, MatchOption}
use Rattle.std.specs.Result.{MatchResult}
use Rattle.printed.specs.declared.part.Part.{Part}
use Rattle.printed.specs.declared.fault.FieldFault.{FieldFault}
use Rattle.printed.specs.Faults.{FieldWrong}
use Rattle.std.proofs.lemmas.List.{take_more, take-append-le, take_all, same_from_push}
use Rattle.printed.specs.Fields.{figure, leading, justified, Field, FieldShape, NumberShape, BlankShape, WrongAt}
use Rattle.printed.proofs.Columns.{ten_pos, length_leading, length_justified, same_leading, tenth_below, take_leading, more_leading}

-- the front of a field, as any right one has it
pub front_from_shape : (i j : ℕ) (ys : List ℕ) → FieldShape (suc (i + j)) ys → (n : ℕ) × (n < 10 ^ i) × (take i ys ≡ leading i n)
front_from_shape i j ys (None, r, e) =
    let p = take_leading i j 0 (ten_pos (i + j)) in
    (p.0, p.1, rw (e, take-append-le i (leading (i + j) 0) (32 ∷ []) (omega (arith, length_leading (i + j) 0))) p.2)
front_from_shape i j ys (Some k, r, e) =
    let p = take_leading i j (k / 10) (omega (arith, rw pow-suc at r)) in
    (p.0, p.1, rw (e, take-append-le i (leading (i + j) (k / 10)) ((48 + k % 10) ∷ []) (omega (arith, length_leading (i + j) (k / 10)))) p.2)

pub shape_from_front : (i j n : ℕ) → n < 10 ^ i → (ys : List ℕ) × FieldShape (suc (i + j)) ys × (take i ys ≡ leading i n)
shape_from_front i j n h =
    let p = more_leading i j n h in
    let m = p.0 in
    let t : m * 10 / 10 ≡ m = omega arith in
    let b : m * 10 < 10 ^ suc (i + j) = rw pow-suc (omega (arith, p.1)) in (
      justified (suc (i + j)) (m * 10),
      (Some (m * 10), b, refl),
      rw t (take-append-le i (leading (i + j) m) ((48 + m * 10 % 10) ∷ []) (omega (arith, length_leading (i + j) m)) ∙ p.2),
    )

-- the first i columns of xs show n
abbrev pub Front : List ℕ → ℕ → ℕ → Type 0
Front xs i n = (take i xs ≡ leading i n) × (n < 10 ^ i)

pub front_at : (xs : List ℕ) (i j n : ℕ) → i ≡ j → Front xs i n → Front xs j n
front_at xs i j n e h = rw (← e) h

-- i columns of xs are read, and show n; b is the next
module _ (xs : List ℕ) (i n : ℕ) (read : Front xs i n) (more : i < length xs) where
  front : take i xs ≡ leading i n
  front = read.0

  small : n < 10 ^ i
  small = read.1

  next : take (suc i) xs ≡ leading i n ++ get_or xs i 0 ∷ []
  next = rw (← add-one i) (take_more xs i 0 more ∙ rw front refl)

  -- some right field begins as xs does before b
  before : (ys : List ℕ) × FieldShape (length xs) ys × (take (i + 1 - 1) ys ≡ take (i + 1 - 1) xs)
  before =
      let e : length xs ≡ suc (i + (length xs - suc i)) = omega arith in
      let k : i + 1 - 1 ≡ i = omega arith in
      let p = shape_from_front i (length xs - suc i) n small in
      (p.0, subst (λ (w : ℕ). FieldShape w p.0) (sym e) p.1, rw k (p.2 ∙ sym front))

  pub wrong_early : suc i < length xs → ((m : ℕ) → m / 10 ≡ n → figure m ≡ get_or xs i 0 → ⊥) → WrongAt (FieldShape (length xs)) xs (i + 1)
  wrong_early l none = record {
    within = (omega arith, omega arith);
    before = before;
    after = λ ys s t.
        let e : length xs ≡ suc (suc i + (length xs - suc (suc i))) = omega arith in
        let q = front_from_shape (suc i) (length xs - suc (suc i)) ys (rw e at s) in
        let t' : take (suc i) ys ≡ take (suc i) xs = rw add-one at t in
        let p = same_from_push (leading i (q.0 / 10)) (leading i n) (figure q.0) (get_or xs i 0) (sym q.2 ∙ (t' ∙ next)) in
        none q.0 (same_leading i (q.0 / 10) n (tenth_below i q.0 q.1) small p.0) p.1;
  }

  pub wrong_last : length xs ≡ suc i → (n ≡ 0 → get_or xs i 0 ≡ 32 → ⊥) → (48 ≤ get_or xs i 0 → get_or xs i 0 ≤ 57 → ⊥) → WrongAt (FieldShape (length xs)) xs (i + 1)
  wrong_last l blank digit = record {
    within = (omega arith, omega arith);
    before = before;
    after = λ ys s t. after ys (rw l at s) (rw add-one at t);
  } where
    after : (ys : List ℕ) → FieldShape (suc i) ys → take (suc i) ys ≡ take (suc i) xs → ⊥
    after ys (None, r, e) t =
        let a = take_all (suc i) ys (omega (arith, ap length e ∙ length_leading (suc i) 0)) in
        let p = same_from_push (leading i 0) (leading i n) 32 (get_or xs i 0) (sym e ∙ (sym a ∙ (t ∙ next))) in
        blank (same_leading i n 0 small (ten_pos i) (sym p.0)) (sym p.1)
    after ys (Some k, r, e) t =
        let a = take_all (suc i) ys (omega (arith, ap length e ∙ length_justified (suc i) k)) in
        let p = same_from_push (leading i (k / 10)) (leading i n) (48 + k % 10) (get_or xs i 0) (sym e ∙ (sym a ∙ (t ∙ next))) in
        digit (omega (arith, p.1)) (omega (arith, p.1))

-- ---- a field that may not be blank
zero_front : (c w : ℕ) → c ≤ w → take (c - 1) (justified w 0) ≡ take (c - 1) (leading w 0)
zero_front c zero l = refl
zero_front c (suc w) l = grind (arith, take-append-le, length_leading w 0)

number_before : (xs : List ℕ) (w c : ℕ) → c ≤ w
    → (ys : List ℕ) × FieldShape w ys × (take (c - 1) ys ≡ take (c - 1) xs) → (ys : List ℕ) × NumberShape w ys × (take (c - 1) ys ≡ take (c - 1) xs)
number_before xs w c l (ys, (None, r, e), t) =
    (justified w 0, (0, ten_pos w, refl), zero_front c w l ∙ (ap (take (c - 1)) (sym e) ∙ t))
number_before xs w c l (ys, (Some n, r, e), t) = (ys, (n, r, e), t)

pub wrong_number : (xs : List ℕ) (c : ℕ) → WrongAt (FieldShape (length xs)) xs c → WrongAt (NumberShape (length xs)) xs c
wrong_number xs c wrong = record {
  within = wrong.within;
  before = number_before xs (length xs) c wrong.within.1 wrong.before;
  after = λ ys s. wrong.after ys (Some s.0, s.1, s.2);
}

blank_after : (xs : List ℕ) (w : ℕ) → 0 < w → length xs ≡ w → xs ≡ leading w 0 → (ys : List ℕ) → NumberShape w ys → take w ys ≡ take w xs → ⊥
blank_after xs zero z l b ys s t = omega arith
blank_after xs (suc w) z l b ys (n, r, e) t =
    let a = take_all (suc w) ys (omega (arith, ap length e ∙ length_justified (suc w) n)) in
    let d = take_all (suc w) xs (omega arith) in
    let p = same_from_push (leading w (n / 10)) (leading w 0) (48 + n % 10) 32 (sym e ∙ (sym a ∙ (t ∙ (d ∙ b)))) in
    omega (arith, p.1)

pub blank_number : (xs : List ℕ) → 0 < length xs → Field xs None → WrongAt (NumberShape (length xs)) xs (length xs)
blank_number xs z f = record {
  within = (z, omega arith);
  before = number_before xs (length xs) (length xs) (omega arith) (xs, (None, tt, f.1), refl);
  after = blank_after xs (length xs) z refl f.1;
}

-- what was read may not be blank
pub number_cases : (part : Part) (v : Option ℕ) (f : FieldFault) → Field part.bytes.now v → f.line ≡ part.line → f.column ≡ part.start + length part.bytes.now
    → MatchResult (ok_or v f) (λ n. Field part.bytes.now (Some n)) (FieldWrong (NumberShape (length part.bytes.now)) part)
number_cases part None f h l k = (l, (_, k, blank_number part.bytes.now part.width.0 h))
number_cases part (Some n) f h l k = h

-- ---- a field that must be blank
front_blank : (i j : ℕ) → take i (leading (i + j) 0) ≡ leading i 0
front_blank i zero = rw add-zero (take_all i (leading i 0) (omega (arith, length_leading i 0)))
front_blank i (suc j) = rw add-suc (take-append-le i (leading (i + j) 0) (32 ∷ []) (omega (arith, length_leading (i + j) 0)) ∙ front_blank i j)

-- the columns before i are blank
blank_to : (xs : List ℕ) (i : ℕ) → i ≤ length xs → AllWithin (λ b. b ≡ 32) xs 0 i → take i xs ≡ leading i 0
blank_to xs zero l all = refl
blank_to xs (suc i) l all =
    rw (← add-one i) (take_more xs i 0 (omega arith) ∙ rw (blank_to xs i (omega arith) (λ k d a b. all k d a (omega arith)), all i 0 (omega arith) (omega arith)) refl)

-- by the first column that is not blank
pub blank_cases : (xs : List ℕ) (r : Option ℕ)
    → MatchOption r (AllWithin (λ b. b ≡ 32) xs 0 (length xs)) (λ i. (i < length xs) × HoldsAt (λ b. b ≡ 32 → ⊥) xs i × AllWithin (λ b. b ≡ 32) xs 0 i)
    → MatchOption r (Field xs None) (λ i. WrongAt (BlankShape (length xs)) xs (i + 1))
blank_cases xs None all = (tt, sym (take_all (length xs) xs (omega arith)) ∙ blank_to xs (length xs) (omega arith) all)
blank_cases xs (Some i) (l, ne, all) =
    let k : i + 1 - 1 ≡ i = omega arith in
    let f : take i xs ≡ leading i 0 = blank_to xs i (omega arith) all in
    let front : (m : ℕ) → m ≤ length xs → take m (leading (length xs) 0) ≡ leading m 0 = λ m h.
    let e : length xs ≡ m + (length xs - m) = omega arith in rw e (front_blank m (length xs - m)) in
    record {
      within = (omega arith, omega arith);
      before = (leading (length xs) 0, refl, rw k (front i (omega arith) ∙ sym f));
      after = λ ys e t.
          let t' : take (suc i) ys ≡ take (suc i) xs = rw add-one at t in
          let p = same_from_push (leading i 0) (leading i 0) 32 (get_or xs i 0)
          (sym (front (suc i) (omega arith)) ∙ (ap (take (suc i)) (sym e) ∙ (t' ∙ next xs i 0 (f, ten_pos i) l))) in
          ne 0 (sym p.1);
    }

-- what `ok_or` gives where it refuses
pub refused : {T E : Type 0} (o : Option T) (e d : E) → ok_or o e ≡ Err d → (o ≡ None) × (d ≡ e)
refused o e d h = grind arith
