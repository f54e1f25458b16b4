-- A number's figures, read from the left.
use Rattle.std.proofs.Common.{◌≡◌, ℕ, ◌+◌, ◌-◌, ◌*◌, ◌^◌, ◌<◌, ◌≤◌, Bool, true, false, cond, ◌&&◌, ltb, List, [], ◌∷◌, length, Some, None, Option, sym, refl, ap, ◌∙◌, arith}
use Rattle.std.proofs.iter.Yields.{fronts}
use Rattle.std.proofs.lemmas.List.{nil_from_length}
use Rattle.std.specs.Borrow.{Bor}
use Rattle.std.specs.ControlFlow.{continue_value}
use Rattle.std.specs.Fn.{Called}
use Rattle.std.specs.Iterator.{TryFoldsItems, Yields}
use Rattle.std.specs.List.{FoldsTo}
use Rattle.std.specs.declared.ops.ControlFlow.{ControlFlow}
use Rattle.std.specs.declared.slice.Iter.{Iter}
use Rattle.script.specs.Words.{number, number_on, read_on}
use denote.Param.Members.{Mut}
use Rattle.std.proofs.lemmas.Bool.{and_right, le-ltb, ltb-false, ltb-true, lt-ltb}
use Rattle.std.specs.Char.{is_ascii_digit}
use Rattle.std.specs.Str.{all_ascii_digits}

-- more figures do not make a number smaller
read_grows : (n : ℕ) (bs : List ℕ) → n ≤ read_on n bs
read_grows n [] = omega arith
read_grows n (b ∷ bs) = omega (arith, read_grows (n * 10 + (b - 48)) bs)

-- the number so far with one more figure
abbrev pub appended : ℕ → ℕ → Option ℕ
appended n b = cond (is_ascii_digit b && ltb (n * 10 + (b - 48)) (2 ^ 32)) (Some (n * 10 + (b - 48))) None

more_by : (t u : Bool) (n b m : ℕ) (bs : List ℕ) → is_ascii_digit b ≡ t → ltb (n * 10 + (b - 48)) (2 ^ 32) ≡ u →
    Some m ≡ cond (t && u) (Some (n * 10 + (b - 48))) None → number_on n (b ∷ bs) ≡ number_on m bs
more_by true true n b m bs p q e =
    let k : m ≡ n * 10 + (b - 48) = cc in
    rw (p, k) refl
more_by true false n b m bs p q e = absurd (let z : ◌≡◌ {A = ℕ} 0 1 = cc in omega arith)
more_by false u n b m bs p q e = absurd (let z : ◌≡◌ {A = ℕ} 0 1 = cc in omega arith)

pub figure_more : (n b m : ℕ) (bs : List ℕ) → Some m ≡ appended n b → number_on n (b ∷ bs) ≡ number_on m bs
figure_more n b m bs e = more_by (is_ascii_digit b) (ltb (n * 10 + (b - 48)) (2 ^ 32)) n b m bs refl refl e

wrong_by : (t u : Bool) (n b : ℕ) (bs : List ℕ) → is_ascii_digit b ≡ t → ltb (n * 10 + (b - 48)) (2 ^ 32) ≡ u →
    None ≡ cond (t && u) (Some (n * 10 + (b - 48))) None → number_on n (b ∷ bs) ≡ None
wrong_by false u n b bs p q e = rw p refl
wrong_by true true n b bs p q e = absurd (let z : ◌≡◌ {A = ℕ} 0 1 = cc in omega arith)
wrong_by true false n b bs p q e =
    let m = n * 10 + (b - 48) in
    let big : ltb (read_on m bs) (2 ^ 32) ≡ false = le-ltb (read_on m bs) (2 ^ 32) (omega (arith, ltb-false m (2 ^ 32) q, read_grows m bs)) in
    let no : ((is_ascii_digit b && all_ascii_digits bs) && ltb (read_on m bs) (2 ^ 32)) ≡ false = and_right (is_ascii_digit b && all_ascii_digits bs) (ltb (read_on m bs) (2 ^ 32)) big in
    rw no refl

pub figure_wrong : (n b : ℕ) (bs : List ℕ) → None ≡ appended n b → number_on n (b ∷ bs) ≡ None
figure_wrong n b bs e = wrong_by (is_ascii_digit b) (ltb (n * 10 + (b - 48)) (2 ^ 32)) n b bs refl refl e

pub no_more : (n : ℕ) → n < 2 ^ 32 → number_on n [] ≡ Some n
no_more n h = rw (lt-ltb n (2 ^ 32) h) refl

-- a word has a byte
pub number_is : (w : List ℕ) → 0 < length w → number w ≡ number_on 0 w
number_is [] h = absurd (omega arith)
number_is (b ∷ bs) h = refl

-- the numbers so far, where the figures are read by turns that append
abbrev Appends : {F : Type 0} → Mut F (ℕ × (Bor ℕ × Unit {0})) (Option ℕ) → F → Type 0
Appends {F} g f = (n : ℕ) (x : Bor ℕ) (v : Option ℕ) (q : F) → Called g f (n, (x, tt)) v q → (q ≡ f) × (v ≡ appended n x.now)

abbrev Turn : {F : Type 0} → Mut F (ℕ × (Bor ℕ × Unit {0})) (Option ℕ) → F × ℕ → Bor ℕ → F × ℕ → Type 0
Turn g p x q = (v : Option ℕ) × Called g p.0 (p.1, (x, tt)) v q.0 × (v ≡ Some q.1)

small_by : (t u : Bool) (n b m : ℕ) → ltb (n * 10 + (b - 48)) (2 ^ 32) ≡ u → Some m ≡ cond (t && u) (Some (n * 10 + (b - 48))) None → m < 2 ^ 32
small_by true true n b m q e = let k : m ≡ n * 10 + (b - 48) = cc in rw k (ltb-true (n * 10 + (b - 48)) (2 ^ 32) q)
small_by true false n b m q e = cc
small_by false u n b m q e = cc

module _ {F : Type 0} (g : Mut F (ℕ × (Bor ℕ × Unit {0})) (Option ℕ)) (f : F) (appends : Appends g f) where
  turns : (xs : List (Bor ℕ)) (s t : Iter ℕ) (f' q : F) (n a : ℕ) → Yields fronts s xs t → FoldsTo {P = F × ℕ} (Turn g) (f', n) xs (q, a) → f' ≡ f → n < 2 ^ 32 →
      (q ≡ f) × (a < 2 ^ 32) × (number_on n s.rest.now ≡ number_on a t.rest.now)
  turns [] s t f' q n a y z e h = (
    ap (λ (p : F × ℕ). p.0) (sym z) ∙ e,
    omega (arith, ap (λ (p : F × ℕ). p.1) z),
    ap (λ (p : F × ℕ). number_on p.1 s.rest.now) z ∙ ap (λ (i : Iter ℕ). number_on a i.rest.now) y,
  )
  turns (x ∷ xs) s t f' q n a y z e h =
      let c = appends n x z.1.0 z.0.0 (rw e at z.1.1) in
      let v : Some z.0.1 ≡ appended n x.now = sym z.1.2 ∙ c.1 in
      let r = turns xs y.0 t z.0.0 q z.0.1 a y.2 z.2 c.0 (small_by (is_ascii_digit x.now) (ltb (n * 10 + (x.now - 48)) (2 ^ 32)) n x.now z.0.1 refl v) in
      (r.0, r.1, ap (number_on n) y.1 ∙ figure_more n x.now z.0.1 y.0.rest.now v ∙ r.2)

  pub number_folds : {E : Type 0} (w : List ℕ) (s u : Iter ℕ) (r : Option ℕ) → s.rest.now ≡ w →
      TryFoldsItems fronts g (λ (v : Option ℕ) (c : ControlFlow E ℕ). v ≡ continue_value c) (λ _ o. o ≡ None) s f 0 r u → r ≡ number_on 0 w
  number_folds w s u r e (xs, None, f', a, y, z, m) =
      let c = turns xs s y.0 f f' 0 a y.1 z refl (omega arith) in
      let k : y.0.rest.now ≡ [] = nil_from_length y.0.rest.now y.2.0 in
      m ∙ sym (ap (number_on 0) (sym e) ∙ c.2 ∙ ap (number_on a) k ∙ no_more a c.1)
  number_folds w s u r e (xs, Some x, f', a, y, z, m) =
      let c = turns xs s y.0 f f' 0 a y.1 z refl (omega arith) in
      let p = appends a x m.0 m.1 (rw c.0 at m.3) in
      let n : None ≡ appended a x.now = sym m.4 ∙ p.1 in
      m.5 ∙ sym (ap (number_on 0) (sym e) ∙ c.2 ∙ ap (number_on a) y.2 ∙ figure_wrong a x.now u.rest.now n)
