-- A store's lines, one after the other, and how many cells hold something.
use Rattle.std.proofs.Common.{◌≡◌, ℕ, ◌+◌, Bool, cond, [], ◌∷◌, ◌++◌, map, is_some, sym, refl, ap, ◌∙◌, arith}
use Rattle.listing.specs.Stored.{line_of, store_lines, told_cell, told_count}
use Rattle.std.proofs.lemmas.List.{map-id}
use Rattle.std.proofs.lemmas.List.Folds.{flat_map-map}
use Rattle.std.proofs.lemmas.List.FromFn.{map-range_with_len_more}
use Rattle.std.proofs.lemmas.List.Sums.{sum_by_push}
use Rattle.std.specs.List.{flat_map, range_with_len}
use Rattle.store.specs.Cells.{Cells}

pub lines_all : (cs : Cells) (n : ℕ) → flat_map (λ x. x) (map (line_of cs) (range_with_len 0 n)) ≡ store_lines cs n
unfolding store_lines
lines_all cs n = flat_map-map (λ x. x) (line_of cs) (range_with_len 0 n)

-- the cells that hold something, with one more looked at
pub count_none : (cs : Cells) → 0 ≡ told_count cs 0
unfolding told_count
count_none cs = refl

range_more : (k : ℕ) → range_with_len 0 (k + 1) ≡ range_with_len 0 k ++ k ∷ []
range_more k =
    sym (map-id (range_with_len 0 (k + 1))) ∙ map-range_with_len_more (λ j. j) 0 k k (omega arith)
    ∙ ap (λ js. js ++ k ∷ []) (map-id (range_with_len 0 k))

pub count_more : (cs : Cells) (k n m : ℕ) (t : Bool) → n ≡ told_count cs k → t ≡ is_some (told_cell cs k) → m ≡ n + cond t 1 0 →
    m ≡ told_count cs (k + 1)
unfolding told_count
count_more cs k n m t e f g =
    g ∙ rw (e, f) (sym (rw (range_more k) (sum_by_push (λ j. cond (is_some (told_cell cs j)) 1 0) (range_with_len 0 k) k)))
