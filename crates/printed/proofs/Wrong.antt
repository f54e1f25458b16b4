-- Where a text of a given shape goes wrong.
use Rattle.std.proofs.Common.{◌≡◌, ℕ, ◌+◌, ◌-◌, ◌≤◌, List, [], ◌∷◌, ◌++◌, length, take, drop, sym, refl, ap, ◌∙◌, arith, take-add}
use Rattle.std.proofs.lemmas.List.{take-take, take_at, drop_at, drop-take, length-drop, length-take-le}
use Rattle.printed.specs.Fields.{WrongAt}

-- the same texts in other words
pub wrong_same : (P Q : List ℕ → Type 0) (xs : List ℕ) (c : ℕ) → ((ys : List ℕ) → P ys → Q ys) → ((ys : List ℕ) → Q ys → P ys) → WrongAt P xs c → WrongAt Q xs c
wrong_same P Q xs c to from w = record {
  within = w.within;
  before = (w.before.0, to w.before.0 w.before.1, w.before.2);
  after = λ ys q. w.after ys (from ys q);
}

-- one byte that is not the only right one
pub wrong_byte : (b d : ℕ) → (b ≡ d → ⊥) → WrongAt (λ ys. ys ≡ d ∷ []) (b ∷ []) 1
wrong_byte b d ne = record {
  within = (omega arith, omega arith);
  before = (d ∷ [], refl, refl);
  after = λ ys e t. ne cc;
}

-- a part of a text is wrong, where its front is right: any right part makes a right text with it, and any right text that begins so has a right part
module _ (L Q : List ℕ → Type 0) (xs : List ℕ) (k w c : ℕ) (room : k + w ≤ length xs) (wrong : WrongAt Q (take w (drop k xs)) c)
    (grows : (q : List ℕ) → Q q → (ys : List ℕ) × L ys × (take (k + w) ys ≡ take k xs ++ q))
    (cuts : (ys : List ℕ) → L ys → take k ys ≡ take k xs → Q (take w (drop k ys))) where
  small : c ≤ w
  small = let n : length (take w (drop k xs)) ≡ w = length-take-le w (drop k xs) (simp length-drop (omega arith)) in omega (arith, wrong.within)

  front : (m : ℕ) (q : List ℕ) → take (k + m) (take k xs ++ q) ≡ take k xs ++ take m q
  front m q =
      let l : length (take k xs) ≡ k = length-take-le k xs (omega arith) in
      take-add k m (take k xs ++ q) ∙ rw (take_at (take k xs) q k l, drop_at (take k xs) q k l)

  pub wrong_inside : WrongAt L xs (k + c)
  wrong_inside =
      let b = wrong.before in
      let g = grows b.0 b.1 in
      let sm : c ≤ w = small in
      let m : k + c - 1 ≡ k + (c - 1) = omega (arith, wrong.within) in
      record {
        within = (omega (arith, wrong.within), omega arith);
        before = (
          g.0,
          g.1,
          rw m
              (sym (take-take (k + (c - 1)) (k + w) g.0 (omega arith))
              ∙ (ap (take (k + (c - 1))) g.2
              ∙ (front (c - 1) b.0
              ∙ (ap (λ (l : List ℕ). take k xs ++ l) (b.2 ∙ take-take (c - 1) w (drop k xs) (omega arith)) ∙ sym (take-add k (c - 1) xs))))),
        );
        after = λ ys l t.
            let tk : take k ys ≡ take k xs =
            sym (take-take k (k + c) ys (omega arith)) ∙ (ap (take k) t ∙ take-take k (k + c) xs (omega arith)) in
            wrong.after (take w (drop k ys)) (cuts ys l tk)
            (take-take c w (drop k ys) sm
            ∙ (sym (drop-take k c ys) ∙ (ap (drop k) t ∙ (drop-take k c xs ∙ sym (take-take c w (drop k xs) sm)))));
      }
