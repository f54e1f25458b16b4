-- The words of a line, from its front.
use Rattle.std.proofs.Common.{◌≡◌, ℕ, ◌<◌, Bool, true, false, eqb, List, [], ◌∷◌, length, take, drop, sym, refl, ap, ◌∙◌, subst, one-add, arith, length-take-le}
use Rattle.std.proofs.lemmas.List.{nil_from_length}
use Rattle.std.proofs.lemmas.List.Sums.{prefix_len-le-length}
use Rattle.std.specs.List.{prefix_len}
use Rattle.script.specs.Words.{alike, filled, onto, pieces, words}

-- how many bytes at the front are blanks, or are none
abbrev pub run : Bool → List ℕ → ℕ
run v bs = prefix_len (alike v) bs

-- blanks in front do not count
past_by : (t : Bool) (b : ℕ) (bs : List ℕ) → eqb b 32 ≡ t → words bs ≡ words (drop (run true bs) bs) →
    words (b ∷ bs) ≡ words (drop (run true (b ∷ bs)) (b ∷ bs))
past_by true b bs e ih = rw (e, one-add) ih
past_by false b bs e ih = rw (e, e) refl

pub words_past : (xs : List ℕ) → words xs ≡ words (drop (run true xs) xs)
words_past [] = refl
words_past (b ∷ bs) = past_by (eqb b 32) b bs refl (words_past bs)

-- what follows them begins with another byte, or is nothing
begin_by : (t : Bool) (b : ℕ) (bs : List ℕ) → eqb b 32 ≡ t →
    (0 < length (drop (run true bs) bs) → 0 < run false (drop (run true bs) bs)) →
    0 < length (drop (run true (b ∷ bs)) (b ∷ bs)) → 0 < run false (drop (run true (b ∷ bs)) (b ∷ bs))
begin_by true b bs e ih = rw (e, one-add) ih
begin_by false b bs e ih = rw (e, e, one-add) (λ _. omega arith)

begins : (xs : List ℕ) → 0 < length (drop (run true xs) xs) → 0 < run false (drop (run true xs) xs)
begins [] h = h
begins (b ∷ bs) h = begin_by (eqb b 32) b bs refl (begins bs) h

pub begins_at : (xs ys : List ℕ) → ys ≡ drop (run true xs) xs → 0 < length ys → 0 < run false ys
begins_at xs ys e h = subst (λ zs. 0 < run false zs) (sym e) (begins xs (subst (λ zs. 0 < length zs) e h))

-- the pieces but the first
abbrev after : List (List ℕ) → List (List ℕ)
after [] = []
after (p ∷ ps) = ps

-- the first piece is what stands before the first blank
first_by : (t : Bool) (b : ℕ) (bs : List ℕ) → eqb b 32 ≡ t →
    pieces bs ≡ take (run false bs) bs ∷ after (pieces (drop (run false bs) bs)) →
    pieces (b ∷ bs) ≡ take (run false (b ∷ bs)) (b ∷ bs) ∷ after (pieces (drop (run false (b ∷ bs)) (b ∷ bs)))
first_by true b bs e ih = rw (e, e) refl
first_by false b bs e ih = rw (e, one-add) (ap (onto b) ih)

first_piece : (xs : List ℕ) → pieces xs ≡ take (run false xs) xs ∷ after (pieces (drop (run false xs) xs))
first_piece [] = refl
first_piece (b ∷ bs) = first_by (eqb b 32) b bs refl (first_piece bs)

-- what follows the first piece begins with a blank, or is nothing
bare_by : (t : Bool) (b : ℕ) (bs : List ℕ) → eqb b 32 ≡ t → run false (drop (run false bs) bs) ≡ 0 →
    run false (drop (run false (b ∷ bs)) (b ∷ bs)) ≡ 0
bare_by true b bs e ih = rw (e, e) refl
bare_by false b bs e ih = rw (e, one-add) ih

bare : (xs : List ℕ) → run false (drop (run false xs) xs) ≡ 0
bare [] = refl
bare (b ∷ bs) = bare_by (eqb b 32) b bs refl (bare bs)

-- so its words are those of the pieces but the first
rest_words : (xs : List ℕ) → run false xs ≡ 0 → words xs ≡ filled (after (pieces xs))
rest_words xs e =
    let f : pieces xs ≡ take (run false xs) xs ∷ after (pieces (drop (run false xs) xs)) = first_piece xs in
    let g : pieces xs ≡ [] ∷ after (pieces xs) = rw e at f in
    ap filled g

-- a line of blanks has no word
pub none_left : (xs ys : List ℕ) → ys ≡ drop (run true xs) xs → length ys ≡ 0 → words xs ≡ []
none_left xs ys e h = words_past xs ∙ ap words (sym e ∙ nil_from_length ys h)

-- the first word, and the words of what follows
pub filled_first : (w : List ℕ) (ps : List (List ℕ)) → 0 < length w → filled (w ∷ ps) ≡ w ∷ filled ps
filled_first [] ps h = absurd (omega arith)
filled_first (b ∷ w) ps h = refl

first_word : (xs : List ℕ) → 0 < run false xs → words xs ≡ take (run false xs) xs ∷ words (drop (run false xs) xs)
first_word xs h =
    let k = run false xs in
    let l : length (take k xs) ≡ k = length-take-le k xs (prefix_len-le-length (alike false) xs) in
    ap filled (first_piece xs) ∙ filled_first (take k xs) (after (pieces (drop k xs))) (omega (arith, l))
    ∙ ap (λ ws. take k xs ∷ ws) (sym (rest_words (drop k xs) (bare xs)))

pub split_first : (xs ys w rest : List ℕ) (k : ℕ) → ys ≡ drop (run true xs) xs → 0 < length ys → k ≡ run false ys →
    w ≡ take k ys → rest ≡ drop k ys → words xs ≡ w ∷ words rest
split_first xs ys w rest k e h n f g =
    words_past xs ∙ ap words (sym e) ∙ first_word ys (begins_at xs ys e h)
    ∙ (let p : take (run false ys) ys ≡ w = ap (λ j. take j ys) (sym n) ∙ sym f in
    let q : drop (run false ys) ys ≡ rest = ap (λ j. drop j ys) (sym n) ∙ sym g in
    rw (p, q) refl)
