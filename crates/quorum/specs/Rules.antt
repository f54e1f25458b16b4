-- When a set of processes is enough, rule by rule.
use Rattle.std.specs.Prelude.{ℕ, ◌+◌, ◌*◌, Bool, ◌&&◌, ◌||◌, List, length, take, map, filter, zip, sum, count_by, nat_le, nat_lt}
use Rattle.std.specs.List.{list_all}
use Rattle.quorum.specs.Laws.{has}

-- a rule is for 1 to 9 processes
abbrev pub is_size : ℕ → Bool
is_size n = nat_le 1 n && nat_le n 9

-- how many members a set has
abbrev pub members : List Bool → ℕ
members set = count_by (λ b. b) set

-- majority: twice the members exceed n
abbrev pub majority : ℕ → List Bool → Bool
majority n set = nat_lt n (2 * members (take n set))

-- the weights together
abbrev pub total : List ℕ → ℕ
total ws = sum ws

-- the weights of a set's members together
abbrev pub weight : List ℕ → List Bool → ℕ
weight ws set = sum (map (λ p. p.0) (filter (λ p. p.1) (zip ws set)))

-- weights: twice the set's weight exceeds the total
abbrev pub heavy : List ℕ → List Bool → Bool
heavy ws set = nat_lt (total ws) (2 * weight ws set)

-- no weight is above 99
abbrev pub light : List ℕ → Bool
light ws = list_all (λ w. nat_le w 99) ws

-- weights of which a rule can be made
abbrev pub are_weights : List ℕ → Bool
are_weights ws = is_size (length ws) && light ws && nat_lt 0 (total ws)

-- a whole row of three, the first at the index k
abbrev pub whole_row : List Bool → ℕ → Bool
whole_row set k = has set k && has set (k + 1) && has set (k + 2)

-- some process of that row
abbrev pub some_of_row : List Bool → ℕ → Bool
some_of_row set k = has set k || has set (k + 1) || has set (k + 2)

-- grid: a whole row, and at least one process of every row
abbrev pub grid : List Bool → Bool
grid set =
    (whole_row set 0 || whole_row set 3 || whole_row set 6) && (some_of_row set 0 && some_of_row set 3 && some_of_row set 6)
