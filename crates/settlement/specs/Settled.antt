-- What the decision cells say.
use Rattle.std.specs.Prelude.{◌≡◌, ℕ, ◌<◌, ◌≤◌, Some, None, Option}
use Rattle.store.specs.Cells.{Cells}
use Rattle.agreement.specs.Promise.{Holds}

-- no process below p has a decision
abbrev pub NoneBelow : Cells → ℕ → Type 0
NoneBelow cs p = (q : ℕ) → 1 ≤ q → q < p → cs q 4 ≡ None

-- the decision of the first process that has one
abbrev pub FirstDecision : Cells → Option ℕ → Type 0
FirstDecision cs None = NoneBelow cs 10
FirstDecision cs (Some v) = (p : ℕ) × ((1 ≤ p) × (p ≤ 9) × Holds (cs p 4) v × NoneBelow cs p)

-- every decision is this one
abbrev pub OnlyDecision : Cells → Option ℕ → Type 0
OnlyDecision cs o = (p v : ℕ) → 1 ≤ p → p ≤ 9 → Holds (cs p 4) v → o ≡ Some v
