-- Entries read one after the other.
use Rattle.std.proofs.Common.{◌≡◌, ℕ, zero, suc, ◌+◌, ◌<◌, ◌≤◌, min, true, false, cond, ltb, List, [], ◌∷◌, ◌++◌, length, set, Some, Option, sym, refl, ap, ◌∙◌, ⊎_elim, append_assoc, arith}
use Rattle.script.specs.Rows.{beyond, entries, filled_up, row_of}
use Rattle.script.specs.declared.row.Row.{Row}
use Rattle.std.proofs.lemmas.List.{length_push}
use Rattle.std.proofs.lemmas.Bool.{cases_lt, lt-ltb, le-ltb}

-- of all words, those before the rest are entries, and a row has them
abbrev pub Read : {X : Type 0} → X → (List ℕ → Option X) → Row X → List (List ℕ) → List (List ℕ) → Type 0
Read {X = X} d f row all rest =
    (xs : List X) × (row ≡ row_of d xs) × (entries f all ≡ xs ++ entries f rest) × (beyond f all ≡ beyond f rest)

-- a list that is filled up, with one more
fill_more : {X : Type 0} (k : ℕ) (d : X) (xs : List X) (x : X) → length xs < k → set (filled_up k d xs) (length xs) x ≡ filled_up k d (xs ++ x ∷ [])
fill_more zero d xs x h = absurd (omega arith)
fill_more (suc k) d [] x h = refl
fill_more (suc k) d (y ∷ xs) x h = ap (λ zs. y ∷ zs) (fill_more k d xs x (omega arith))

fill_over : {X : Type 0} (k : ℕ) (d : X) (xs : List X) (x : X) → k ≤ length xs → filled_up k d xs ≡ filled_up k d (xs ++ x ∷ [])
fill_over zero d xs x h = refl
fill_over (suc k) d [] x h = absurd (omega arith)
fill_over (suc k) d (y ∷ xs) x h = ap (λ zs. y ∷ zs) (fill_over k d xs x (omega arith))

-- a row with one more
abbrev Pushed : {X : Type 0} → Row X → X → Row X → Type 0
Pushed row x new =
    (new.items ≡ cond (ltb row.count 10) (set row.items row.count x) row.items)
    × (new.count ≡ cond (ltb row.count 10) (row.count + 1) row.count)

same_rows : {X : Type 0} (a b : Row X) → a.items ≡ b.items → a.count ≡ b.count → a ≡ b
same_rows {X = X} a b p q =
    let of : List X → ℕ → Row X = λ xs n. record { items = xs; count = n } in
    ap (λ xs. of xs a.count) p ∙ ap (of b.items) q

push_row : {X : Type 0} (d : X) (xs : List X) (x : X) (new : Row X) → Pushed (row_of d xs) x new → new ≡ row_of d (xs ++ x ∷ [])
push_row d xs x new p =
    let l : length (xs ++ x ∷ []) ≡ length xs + 1 = length_push xs x in
    ⊎_elim
    (λ h.
    let m : min 10 (length xs) ≡ length xs = omega arith in
    let m' : min 10 (length (xs ++ x ∷ [])) ≡ length xs + 1 = omega arith in
    let t : ltb (min 10 (length xs)) 10 ≡ true = lt-ltb (min 10 (length xs)) 10 (omega arith) in
    same_rows new (row_of d (xs ++ x ∷ [])) (p.0 ∙ rw (t, m) (fill_more 10 d xs x h)) (p.1 ∙ rw (t, m) (sym m')))
    (λ h.
    let m : min 10 (length xs) ≡ 10 = omega arith in
    let m' : min 10 (length (xs ++ x ∷ [])) ≡ 10 = omega arith in
    let t : ltb (min 10 (length xs)) 10 ≡ false = le-ltb (min 10 (length xs)) 10 (omega arith) in
    same_rows new (row_of d (xs ++ x ∷ [])) (p.0 ∙ rw t (fill_over 10 d xs x h)) (p.1 ∙ rw (t, m) (sym m')))
    (cases_lt (length xs) 10)

pub read_more : {X : Type 0} (d : X) (f : List ℕ → Option X) (row new : Row X) (all rest : List (List ℕ)) → Read d f row all rest →
    (w : List ℕ) (ws : List (List ℕ)) (x : X) → rest ≡ w ∷ ws → f w ≡ Some x → Pushed row x new → Read d f new all ws
read_more d f row new all rest r w ws x e y p =
    let es : entries f rest ≡ x ∷ entries f ws = rw (e, y) refl in
    let bs : beyond f rest ≡ beyond f ws = rw (e, y) refl in
    (r.0 ++ x ∷ [], push_row d r.0 x new (rw r.1 at p), r.2 ∙ ap (λ ys. r.0 ++ ys) es ∙ sym (append_assoc r.0 (x ∷ []) (entries f ws)), r.3 ∙ bs)
