-- What holds of the grid's rows.
use Rattle.std.specs.Prelude.{◌≡◌, ℕ, ◌+◌, ◌<◌, ◌≤◌, Bool, true, ◌&&◌, ◌||◌, List}
use Rattle.std.proofs.Common.{⊎_elim, arith}
use Rattle.std.proofs.lemmas.Bool.{and_parts, and_from, or_cases}
use Rattle.std.proofs.lemmas.Bool.Decides.{nat_tests}
use Rattle.quorum.specs.Laws.{has, Shares, Grows}
use Rattle.quorum.specs.Rules.{whole_row, some_of_row, grid}

abbrev Within : List Bool → List Bool → Type 0
Within a b = (k : ℕ) → k < 9 → has a k ≡ true → has b k ≡ true

abbrev Common : List Bool → List Bool → Type 0
Common a b = (k : ℕ) × (k < 9) × (has a k ≡ true) × (has b k ≡ true)

-- a whole row meets a set that has one of it
meet : (a b : List Bool) (k : ℕ) → k ≤ 6 → whole_row a k ≡ true → some_of_row b k ≡ true → Common a b
meet a b k low p q =
    let (two, z) = and_parts (has a k && has a (k + 1)) (has a (k + 2)) p in
    let (x, y) = and_parts (has a k) (has a (k + 1)) two in
    ⊎_elim
    (λ s. ⊎_elim (λ t. (k, omega arith, x, t)) (λ t. (k + 1, omega arith, y, t)) (or_cases (has b k) (has b (k + 1)) s))
    (λ t. (k + 2, omega arith, z, t))
    (or_cases (has b k || has b (k + 1)) (has b (k + 2)) q)

-- of three tests that stay true, all stay true, and some stays true
all_stay : {x y z u v w : Bool} → (x ≡ true → u ≡ true) → (y ≡ true → v ≡ true) → (z ≡ true → w ≡ true) → (x && y && z) ≡ true → (u && v && w) ≡ true
all_stay f g h p = grind (arith, nat_tests)

some_stays : {x y z u v w : Bool} → (x ≡ true → u ≡ true) → (y ≡ true → v ≡ true) → (z ≡ true → w ≡ true) → (x || y || z) ≡ true → (u || v || w) ≡ true
some_stays f g h p = grind (arith, nat_tests)

row_grows : (a b : List Bool) → Within a b → (k : ℕ) → k ≤ 6 → whole_row a k ≡ true → whole_row b k ≡ true
row_grows a b sub k low = all_stay (sub k (omega arith)) (sub (k + 1) (omega arith)) (sub (k + 2) (omega arith))

some_grows : (a b : List Bool) → Within a b → (k : ℕ) → k ≤ 6 → some_of_row a k ≡ true → some_of_row b k ≡ true
some_grows a b sub k low = some_stays (sub k (omega arith)) (sub (k + 1) (omega arith)) (sub (k + 2) (omega arith))

-- what a set that is enough has
abbrev Rows : List Bool → Bool
Rows s = whole_row s 0 || whole_row s 3 || whole_row s 6

abbrev Somes : List Bool → Bool
Somes s = some_of_row s 0 && some_of_row s 3 && some_of_row s 6

pub grid_shares : Shares 9 grid
grid_shares a b p q =
    let rows = (and_parts (Rows a) (Somes a) p).0 in
    let (two, s6) = and_parts (some_of_row b 0 && some_of_row b 3) (some_of_row b 6) (and_parts (Rows b) (Somes b) q).1 in
    let (s0, s3) = and_parts (some_of_row b 0) (some_of_row b 3) two in
    ⊎_elim
    (λ r. ⊎_elim (λ t. meet a b 0 (omega arith) t s0) (λ t. meet a b 3 (omega arith) t s3) (or_cases (whole_row a 0) (whole_row a 3) r))
    (λ t. meet a b 6 (omega arith) t s6)
    (or_cases (whole_row a 0 || whole_row a 3) (whole_row a 6) rows)

pub grid_grows : Grows 9 grid
grid_grows a b sub p =
    let (rows, somes) = and_parts (Rows a) (Somes a) p in
    let up = row_grows a b sub in
    let on = some_grows a b sub in
    and_from _ _ (some_stays (up 0 (omega arith)) (up 3 (omega arith)) (up 6 (omega arith)) rows)
    (all_stay (on 0 (omega arith)) (on 3 (omega arith)) (on 6 (omega arith)) somes)
