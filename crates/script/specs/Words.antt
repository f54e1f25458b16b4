-- The words of a line, and the numbers among them.
use Rattle.std.specs.Prelude.{ℕ, ◌+◌, ◌-◌, ◌*◌, ◌^◌, Bool, true, false, cond, not, ◌&&◌, List, [], ◌∷◌, length, take, Some, None, Option, ◌==◌, nat_lt, slice_index}
use Rattle.std.specs.Str.{all_ascii_digits}

-- a line without the line feed at its end
abbrev pub feedless : List ℕ → List ℕ
feedless bs = cond (slice_index bs (length bs - 1) == 10) (take (length bs - 1) bs) bs

-- an empty line, or one that begins with #
abbrev pub passed_over : List ℕ → Bool
passed_over [] = true
passed_over (b ∷ bs) = b == 35

-- one more byte at the front of the first piece
abbrev pub onto : ℕ → List (List ℕ) → List (List ℕ)
onto b [] = (b ∷ []) ∷ []
onto b (w ∷ ws) = (b ∷ w) ∷ ws

-- what stands before, between and after the blanks
abbrev pub pieces : List ℕ → List (List ℕ)
pieces [] = [] ∷ []
pieces (b ∷ bs) = cond (b == 32) ([] ∷ pieces bs) (onto b (pieces bs))

-- the pieces with something in them
abbrev pub filled : List (List ℕ) → List (List ℕ)
filled [] = []
filled ([] ∷ ws) = filled ws
filled ((b ∷ w) ∷ ws) = (b ∷ w) ∷ filled ws

-- the words of a line
abbrev pub words : List ℕ → List (List ℕ)
words bs = filled (pieces bs)

-- a byte is a blank, or it is none
abbrev pub alike : Bool → ℕ → Bool
alike true b = b == 32
alike false b = not (b == 32)

-- the number so far, with the figures that follow
abbrev pub read_on : ℕ → List ℕ → ℕ
read_on n [] = n
read_on n (b ∷ bs) = read_on (n * 10 + (b - 48)) bs

-- the number so far with figures that follow, where all are figures and the number is up to 4,294,967,295
abbrev pub number_on : ℕ → List ℕ → Option ℕ
number_on n bs = cond (all_ascii_digits bs && nat_lt (read_on n bs) (2 ^ 32)) (Some (read_on n bs)) None

-- the number that a word is
abbrev pub number : List ℕ → Option ℕ
number [] = None
number (b ∷ bs) = number_on 0 (b ∷ bs)
