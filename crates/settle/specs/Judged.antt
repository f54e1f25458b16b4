-- What three rules say of one set.
use Rattle.std.specs.Prelude.{Bool, List, [], ◌∷◌}
use Rattle.quorum.specs.Rules.{majority, heavy, grid}
use Rattle.settle.specs.declared.houses.Verdicts.{Verdicts}

-- by the majority of five, by the weights 3, 1, 1, 1 and 1, and by the grid
abbrev pub judged : List Bool → Verdicts
judged set = record { majority = majority 5 set; weights = heavy (3 ∷ 1 ∷ 1 ∷ 1 ∷ 1 ∷ []) set; grid = grid set }
