-- The laws of a quorum rule. A set of processes is a list of booleans, process k at the index k - 1.
use Rattle.std.specs.Prelude.{◌≡◌, ℕ, ◌<◌, Bool, true, false, List, slice_index_or}

-- the process at index k is a member of the set
abbrev pub has : List Bool → ℕ → Bool
has set k = slice_index_or set k false

-- any two sets that are enough share a process
abbrev pub Shares : ℕ → (List Bool → Bool) → Type 0
Shares n enough =
    (a b : List Bool) → enough a ≡ true → enough b ≡ true → (k : ℕ) × (k < n) × (has a k ≡ true) × (has b k ≡ true)

-- a set that contains an enough set is enough, and only the n processes count
abbrev pub Grows : ℕ → (List Bool → Bool) → Type 0
Grows n enough =
    (a b : List Bool) → ((k : ℕ) → k < n → has a k ≡ true → has b k ≡ true) → enough a ≡ true → enough b ≡ true

-- the set of all n processes is enough
abbrev pub Whole : ℕ → (List Bool → Bool) → Type 0
Whole n enough = (a : List Bool) → ((k : ℕ) → k < n → has a k ≡ true) → enough a ≡ true
