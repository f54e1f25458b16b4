-- How a field shows a number.
use Rattle.std.specs.Prelude.{◌≡◌, ℕ, zero, suc, ◌+◌, ◌-◌, ◌/◌, ◌%◌, ◌^◌, ◌<◌, ◌≤◌, cond, List, [], ◌∷◌, ◌++◌, length, take, Some, None, Option, ◌==◌, ◌≢◌}

-- the last figure of a number, and a blank for 0
abbrev pub figure : ℕ → ℕ
figure m = cond (m == 0) 32 (48 + m % 10)

-- a number right-justified in w columns, and blanks for 0
abbrev pub leading : ℕ → ℕ → List ℕ
leading zero m = []
leading (suc w) m = leading w (m / 10) ++ figure m ∷ []

-- a number right-justified in w columns, 0 as a figure
abbrev pub justified : ℕ → ℕ → List ℕ
justified zero n = []
justified (suc w) n = leading w (n / 10) ++ (48 + n % 10) ∷ []

-- a field of w columns: blank, or a number
abbrev pub field : ℕ → Option ℕ → List ℕ
field w None = leading w 0
field w (Some n) = justified w n

-- w columns have room for the number
abbrev pub Room : ℕ → Option ℕ → Type 0
Room w None = Unit {0}
Room w (Some n) = n < 10 ^ w

-- xs is the field that shows v
abbrev pub Field : List ℕ → Option ℕ → Type 0
Field xs v = Room (length xs) v × (xs ≡ field (length xs) v)

-- a field of right shape: blank, or a number
abbrev pub FieldShape : ℕ → List ℕ → Type 0
FieldShape w ys = (v : Option ℕ) × Room w v × (ys ≡ field w v)

-- one that may not be blank
abbrev pub NumberShape : ℕ → List ℕ → Type 0
NumberShape w ys = (n : ℕ) × (n < 10 ^ w) × (ys ≡ justified w n)

-- one that must be blank
abbrev pub BlankShape : ℕ → List ℕ → Type 0
BlankShape w ys = ys ≡ leading w 0

-- column c, counted from 1, is the first of xs after which no text of the shape P can follow
pub record WrongAt (P : List ℕ → Type 0) (xs : List ℕ) (c : ℕ) : Type 0 where
  pub within : (0 < c) × (c ≤ length xs)
  pub before : (ys : List ℕ) × P ys × (take (c - 1) ys ≡ take (c - 1) xs)
  pub after : (ys : List ℕ) → P ys → take c ys ≢ take c xs
