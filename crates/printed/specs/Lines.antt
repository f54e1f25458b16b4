-- How a line shows a content, and what a line shows.
use Rattle.std.specs.Prelude.{◌≡◌, ℕ, ◌+◌, ◌-◌, ◌*◌, ◌^◌, ◌<◌, cond, List, [], ◌∷◌, ◌++◌, take, drop, Some, None, fold, Option, ◌==◌, slice_index_or}
use Rattle.store.specs.declared.content.Content.{Content}
use Rattle.printed.specs.Fields.{leading, justified}

-- two numbers in 8 and 6 columns with a blank between them, or blanks alone, and a line feed
abbrev pub line : Option Content → List ℕ
line None = leading 8 0 ++ 32 ∷ (leading 6 0 ++ 10 ∷ [])
line (Some c) = justified 8 c.number ++ 32 ∷ (justified 6 c.stamp ++ 10 ∷ [])

-- the two fields have room for the numbers
abbrev pub Roomy : Option Content → Type 0
Roomy None = Unit {0}
Roomy (Some c) = (c.number < 10 ^ 8) × (c.stamp < 10 ^ 6)

-- a line of right shape
abbrev pub LineShape : List ℕ → Type 0
LineShape ys = (v : Option Content) × Roomy v × (ys ≡ line v)

-- ys is what follows the blank in a line that shows v, where the first field shows the first argument
abbrev pub Rest : Option ℕ → List ℕ → Option Content → Type 0
Rest None ys None = ys ≡ leading 6 0
Rest None ys (Some c) = ⊥
Rest (Some n) ys None = ⊥
Rest (Some n) ys (Some c) = (c.number ≡ n) × (c.stamp < 10 ^ 6) × (ys ≡ justified 6 c.stamp)

-- what may follow the blank
abbrev pub RestShape : Option ℕ → List ℕ → Type 0
RestShape first ys = (v : Option Content) × Rest first ys v

-- the number that a field shows
abbrev pub amount : List ℕ → ℕ
amount xs = fold (λ n b. cond (b == 32) n (n * 10 + (b - 48))) 0 xs

-- what a line shows: nothing where its eighth column is blank
abbrev pub value : List ℕ → Option Content
value xs = cond (slice_index_or xs 7 32 == 32) None (Some (record { number = amount (take 8 xs); stamp = amount (take 6 (drop 9 xs)) }))
