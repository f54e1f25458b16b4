-- A line by its parts: how a fault of a part is one of the line.
use Rattle.std.proofs.Common.{◌≡◌, ℕ, ◌+◌, ◌%◌, ◌^◌, ◌<◌, List, [], ◌∷◌, ◌++◌, length, get_or, take, drop, Some, None, Option, sym, refl, ap, ◌∙◌, arith, take-add}
use Rattle.std.proofs.lemmas.List.{take_more, drop_more, take_all, length-take-le}
use Rattle.store.specs.declared.content.Content.{Content}
use Rattle.printed.specs.declared.part.Part.{Part}
use Rattle.printed.specs.declared.fault.FieldFault.{FieldFault}
use Rattle.printed.specs.Faults.{FieldWrong, ShapeWrong}
use Rattle.printed.specs.declared.fault.LineFault.TheVariants as fault
use Rattle.printed.specs.Fields.{justified, field, Room, Field, FieldShape, NumberShape, WrongAt}
use Rattle.printed.specs.Lines.{line, Roomy, LineShape, Rest, RestShape, amount}
use Rattle.printed.proofs.Slots.{amount_justified}
use Rattle.printed.proofs.Wrong.{wrong_same, wrong_byte, wrong_inside}

-- ---- what follows the blank
pub wrong_stamp : (xs : List ℕ) (n c : ℕ) → length xs ≡ 6 → WrongAt (NumberShape (length xs)) xs c → WrongAt (RestShape (Some n)) xs c
wrong_stamp xs n c l w =
    wrong_same (NumberShape 6) (RestShape (Some n)) xs c
    (λ ys s. (Some (record { number = n; stamp = s.0 }), (refl, s.1, s.2))) from (rw l at w)
  where
    from : (ys : List ℕ) → RestShape (Some n) ys → NumberShape 6 ys
    from ys (None, r) = absurd r
    from ys (Some d, r) = (d.stamp, r.1, r.2)

-- ---- a line by its parts
same_justified : (m n : ℕ) → m < 10 ^ 8 → n < 10 ^ 8 → justified 8 m ≡ justified 8 n → m ≡ n
same_justified m n hm hn e = cc (amount_justified 7 m hm, amount_justified 7 n hn, ap amount e)

-- a line with a first field
abbrev with_first : Option ℕ → Option Content
with_first None = None
with_first (Some n) = Some (record { number = n; stamp = 0 })

first_grows : (q : List ℕ) → FieldShape 8 q → (ys : List ℕ) × LineShape ys × (take 8 ys ≡ q)
first_grows q (None, r, e) = (line None, (None, tt, refl), sym e)
first_grows q (Some n, r, e) = (line (with_first (Some n)), (with_first (Some n), (r, omega arith), refl), sym e)

first_cuts : (ys : List ℕ) → LineShape ys → FieldShape 8 (take 8 ys)
first_cuts ys (None, r, e) = (None, tt, ap (take 8) e)
first_cuts ys (Some c, r, e) = (Some c.number, r.0, ap (take 8) e)

wrong_first : (xs : List ℕ) (c : ℕ) → length xs ≡ 16 → WrongAt (FieldShape 8) (take 8 xs) c → WrongAt LineShape xs (0 + c)
wrong_first xs c l w = wrong_inside LineShape (FieldShape 8) xs 0 8 c (omega arith) w first_grows (λ ys s t. first_cuts ys s)

-- the byte at k is not the one that each line has there, where the front is that of a line
wrong_mark : (xs : List ℕ) (k d : ℕ) (v : Option Content) → k < length xs → Roomy v → take k xs ≡ take k (line v)
    → ((u : Option Content) → take 1 (drop k (line u)) ≡ d ∷ []) → (get_or xs k 0 ≡ d → ⊥) → WrongAt LineShape xs (k + 1)
wrong_mark xs k d v l r f marks ne =
    let part : take 1 (drop k xs) ≡ get_or xs k 0 ∷ [] = ap (take 1) (drop_more xs k 0 l) in
    wrong_inside LineShape (λ ys. ys ≡ d ∷ []) xs k 1 1 (omega arith)
    (rw part (wrong_byte (get_or xs k 0) d ne))
    (λ q e. (line v, (v, r, refl), take-add k 1 (line v) ∙ rw (marks v, e, f) refl))
    (λ ys s t. ap (λ (p : List ℕ). take 1 (drop k p)) s.2 ∙ marks s.0)

gap_marks : (u : Option Content) → take 1 (drop 8 (line u)) ≡ 32 ∷ []
gap_marks None = refl
gap_marks (Some c) = refl

end_marks : (u : Option Content) → take 1 (drop 15 (line u)) ≡ 10 ∷ []
end_marks None = refl
end_marks (Some c) = refl

-- the first field is read
first_front : (xs : List ℕ) (first : Option ℕ) → take 8 xs ≡ field 8 first → take 8 xs ≡ take 8 (line (with_first first))
first_front xs None e = e
first_front xs (Some n) e = e

first_roomy : (first : Option ℕ) → Room 8 first → Roomy (with_first first)
first_roomy None r = tt
first_roomy (Some n) r = (r, omega arith)

-- what follows the blank is read
rest_grows : (first : Option ℕ) (v : Option Content) (q : List ℕ) → Room 8 first → Rest first q v → Roomy v × (take 15 (line v) ≡ (field 8 first ++ 32 ∷ []) ++ q)
rest_grows None None q r e = (tt, rw e refl)
rest_grows None (Some c) q r e = absurd e
rest_grows (Some n) None q r e = absurd e
rest_grows (Some n) (Some c) q r (e, s, f) = ((rw e r, s), rw (e, f) refl)

rest_cuts : (first : Option ℕ) (v : Option Content) (ys : List ℕ) → Room 8 first → Roomy v → ys ≡ line v → take 9 ys ≡ field 8 first ++ 32 ∷ [] → Rest first (take 6 (drop 9 ys)) v
rest_cuts None None ys r s e t = ap (λ (p : List ℕ). take 6 (drop 9 p)) e
rest_cuts None (Some c) ys r s e t =
    let b : 48 + c.number % 10 ≡ 32 = ap (λ (p : List ℕ). get_or p 7 0) (ap (take 9) (sym e) ∙ t) in omega arith
rest_cuts (Some n) None ys r s e t =
    let b : 32 ≡ 48 + n % 10 = ap (λ (p : List ℕ). get_or p 7 0) (ap (take 9) (sym e) ∙ t) in omega arith
rest_cuts (Some n) (Some c) ys r s e t =
    (same_justified c.number n s.0 r (ap (take 8) (ap (take 9) (sym e) ∙ t)), s.1, ap (λ (p : List ℕ). take 6 (drop 9 p)) e)

wrong_rest : (xs : List ℕ) (first : Option ℕ) (c : ℕ) → length xs ≡ 16 → Room 8 first → take 9 xs ≡ field 8 first ++ 32 ∷ []
    → WrongAt (RestShape first) (take 6 (drop 9 xs)) c → WrongAt LineShape xs (9 + c)
wrong_rest xs first c l r f w =
    wrong_inside LineShape (RestShape first) xs 9 6 c (omega arith) w
    (λ q s. let g = rest_grows first s.0 q r s.1 in (line s.0, (s.0, g.0, refl), rw f g.1))
    (λ ys s t. (s.0, rest_cuts first s.0 ys r s.1 s.2 (t ∙ f)))

front_9 : (xs : List ℕ) (first : Option ℕ) → length xs ≡ 16 → take 8 xs ≡ field 8 first → get_or xs 8 0 ≡ 32 → take 9 xs ≡ field 8 first ++ 32 ∷ []
front_9 xs first l f b = take_more xs 8 0 (omega arith) ∙ rw (f, b)

front_15 : (xs : List ℕ) (first : Option ℕ) (v : Option Content) → Room 8 first → take 9 xs ≡ field 8 first ++ 32 ∷ [] → Rest first (take 6 (drop 9 xs)) v
    → Roomy v × (take 15 xs ≡ take 15 (line v))
front_15 xs first v r f s =
    let g = rest_grows first v (take 6 (drop 9 xs)) r s in
    (g.0, take-add 9 6 xs ∙ rw f (sym g.1))

front_16 : (xs : List ℕ) (v : Option Content) → length xs ≡ 16 → take 15 xs ≡ take 15 (line v) → get_or xs 15 0 ≡ 10 → xs ≡ line v
front_16 xs v l f b =
    let a : xs ≡ take 15 xs ++ get_or xs 15 0 ∷ [] = sym (take_all 16 xs (omega arith)) ∙ take_more xs 15 0 (omega arith) in
    a ∙ (rw (f, b) (ends v))
  where
    ends : (u : Option Content) → take 15 (line u) ++ 10 ∷ [] ≡ line u
    ends None = refl
    ends (Some c) = refl

-- ---- as the code has it
first_read : (xs : List ℕ) (first : Option ℕ) → length xs ≡ 16 → Field (take 8 xs) first → Room 8 first × (take 8 xs ≡ field 8 first)
first_read xs first l f = rw (length-take-le 8 xs (omega arith)) at f

-- a field's fault is its line's
pub first_fault : (xs : List ℕ) (at : ℕ) (part : Part) (f : FieldFault) → length xs ≡ 16 → part.bytes.now ≡ take 8 xs → part.line ≡ at → part.start ≡ 0
    → FieldWrong (FieldShape (length part.bytes.now)) part f → ShapeWrong xs at (fault.Field f)
first_fault xs at part f l bytes line start (e, (c, is, w)) = (
  e ∙ line,
  rw (is, start)
      (wrong_first xs c l (rw (bytes, length-take-le 8 xs (omega arith)) at w)),
)

module _ (xs : List ℕ) (first : Option ℕ) (l : length xs ≡ 16) (f : Field (take 8 xs) first) where
  pub blank_fault : (get_or xs 8 0 ≡ 32 → ⊥) → WrongAt LineShape xs 9
  blank_fault ne =
      let r = first_read xs first l f in
      wrong_mark xs 8 32 (with_first first) (omega arith) (first_roomy first r.0) (first_front xs first r.1) gap_marks ne

  module _ (gap : get_or xs 8 0 ≡ 32) where
    pub rest_fault : (at : ℕ) (part : Part) (g : FieldFault) → part.bytes.now ≡ take 6 (drop 9 xs) → part.line ≡ at → part.start ≡ 9
        → FieldWrong (RestShape first) part g → ShapeWrong xs at (fault.Field g)
    rest_fault at part g bytes line start (e, (c, is, w)) =
        let r = first_read xs first l f in
        (e ∙ line, rw (is, start) (wrong_rest xs first c l r.0 (front_9 xs first l r.1 gap) (rw bytes at w)))

    all_but_end : (v : Option Content) → Rest first (take 6 (drop 9 xs)) v → Roomy v × (take 15 xs ≡ take 15 (line v))
    all_but_end v s = let r = first_read xs first l f in front_15 xs first v r.0 (front_9 xs first l r.1 gap) s

    pub line_feed_fault : (v : Option Content) → Rest first (take 6 (drop 9 xs)) v → (get_or xs 15 0 ≡ 10 → ⊥) → WrongAt LineShape xs 16
    line_feed_fault v s ne = let a = all_but_end v s in wrong_mark xs 15 10 v (omega arith) a.0 a.1 end_marks ne

    pub line_read : (v : Option Content) → Rest first (take 6 (drop 9 xs)) v → get_or xs 15 0 ≡ 10 → Roomy v × (xs ≡ line v)
    line_read v s b = let a = all_but_end v s in (a.0, front_16 xs v l a.1 b)
