-- Entries in a row.
use Rattle.std.specs.Prelude.{ℕ, zero, suc, min, List, [], ◌∷◌, length, take, Some, None, Option}
use Rattle.script.specs.declared.row.Row.{Row}

-- the first k of a list, filled up with d
abbrev pub filled_up : {X : Type 0} → ℕ → X → List X → List X
filled_up zero d xs = []
filled_up (suc k) d [] = d ∷ filled_up k d []
filled_up (suc k) d (x ∷ xs) = x ∷ filled_up k d xs

-- a row with the first ten of a list
abbrev pub row_of : {X : Type 0} → X → List X → Row X
row_of d xs = record { items = filled_up 10 d xs; count = min 10 (length xs) }

-- what a row holds
abbrev pub listed : {X : Type 0} → Row X → List X
listed row = take (min row.count 10) row.items

-- an entry in front of others
abbrev pub entered : {X : Type 0} → Option X → List X → List X
entered None xs = []
entered (Some x) xs = x ∷ xs

-- the entries at the front of the words
abbrev pub entries : {X : Type 0} → (List ℕ → Option X) → List (List ℕ) → List X
entries f [] = []
entries f (w ∷ ws) = entered (f w) (entries f ws)

-- the words from a wrong one on
abbrev pub stopped : {X : Type 0} → Option X → List (List ℕ) → List (List ℕ) → List (List ℕ)
stopped None here later = here
stopped (Some x) here later = later

-- the words from the first on that is no entry
abbrev pub beyond : {X : Type 0} → (List ℕ → Option X) → List (List ℕ) → List (List ℕ)
beyond f [] = []
beyond f (w ∷ ws) = stopped (f w) (w ∷ ws) (beyond f ws)
