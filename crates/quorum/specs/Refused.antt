-- The number of a refusal.
use Rattle.std.specs.Prelude.{ℕ}
use Rattle.quorum.specs.declared.CannotBeMade.{CannotBeMade}

-- a rule that cannot be made
abbrev pub number : CannotBeMade → ℕ
number refused = 15
