-- Calls made one after the other.
use Rattle.std.specs.Prelude.{◌≡◌, ℕ, List, [], ◌∷◌, ◌++◌, length, drop, Result}
use Rattle.agreement.specs.Lists.{PanelCall}
use Rattle.agreement.specs.declared.call.Refusal.{Refusal}
use Rattle.agreement.specs.Calls.{State, done, run, verdict}
use Rattle.agreement.specs.Promise.{Agreement, Fresh}

-- the state after them
abbrev pub final : List PanelCall → State → State
final [] s = s
final (c ∷ cs) s = final cs (done (verdict c) s).after

-- what they answer
abbrev pub answers_of : List PanelCall → State → List (Result ℕ Refusal)
answers_of [] s = []
answers_of (c ∷ cs) s = (done (verdict c) s).answer ∷ answers_of cs (done (verdict c) s).after

-- what making the calls on the state s comes to: the state t, and the answers in the first places for them
pub record Sat (calls : List PanelCall) (s t : State) (before answers : List (Result ℕ Refusal)) : Type 0 where
  -- the state after them is that of the run
  pub after : t ≡ final calls s
  -- each answer is that of its call, and the places that are left are as they were
  pub told : answers ≡ answers_of calls s ++ drop (length calls) before
  -- on a fresh panel and tray all that is seen in that run agrees
  pub agreed : Fresh s → Agreement s.size s.enough (run calls s)
