-- The promise of a panel, over everything seen in a run.
use Rattle.std.specs.Prelude.{◌≡◌, ℕ, suc, ◌<◌, ◌≤◌, Bool, true, ◌⊎◌, List, [], ◌∷◌, replicate, Some, None, Option}
use Rattle.std.specs.List.{AllByRecursion}
use Rattle.quorum.specs.Laws.{has, Shares}
use Rattle.agreement.specs.Lists.{PanelCall}
use Rattle.store.specs.declared.content.Content.{Content}
use Rattle.store.specs.Cells.{absent}
use Rattle.process.specs.declared.memory.Status.TheVariants.{Down}
use Rattle.process.specs.declared.message.Kind.{Kind}
use Rattle.agreement.specs.Worlds.{World}
use Rattle.agreement.specs.Calls.{State, run}

-- some element has it
abbrev pub Ever : {A : Type 0} → (A → Type 0) → List A → Type 0
Ever P [] = ⊥
Ever P (x ∷ xs) = P x ⊎ Ever P xs

-- the cell holds this number
abbrev pub Holds : Option Content → ℕ → Type 0
Holds None v = ⊥
Holds (Some x) v = x.number ≡ v

-- the cell holds this number with this stamp
abbrev pub Marked : Option Content → ℕ → ℕ → Type 0
Marked None v r = ⊥
Marked (Some x) v r = (x.number ≡ v) × (x.stamp ≡ r)

-- the pair cell of p holds (v, r)
abbrev pub Bears : ℕ → ℕ → ℕ → World → Type 0
Bears p v r t = Marked (t.cells p 3) v r

-- v stands in a proposal cell
abbrev pub Proposed : ℕ → World → Type 0
Proposed v t = (q : ℕ) × Holds (t.cells q 1) v

-- v stands in a decision cell
abbrev pub Decided : ℕ → World → Type 0
Decided v t = (p : ℕ) × Holds (t.cells p 4) v

-- v stands in a DECIDE message that waits
abbrev pub Announced : ℕ → World → Type 0
Announced v t = Ever (λ m. (m.kind ≡ Kind.Decide) × (m.reading ≡ v)) t.box

-- in either
abbrev pub Settled : ℕ → World → Type 0
Settled v t = Decided v t ⊎ Announced v t

-- what holds of all that is seen
pub record Agreement (n : ℕ) (enough : List Bool → Bool) (seen : List World) : Type 0 where
  -- all readings that ever stand in a decision cell or in a DECIDE message of the tray are one and the same
  pub one_decision : (v w : ℕ) → Ever (Settled v) seen → Ever (Settled w) seen → v ≡ w
  -- whenever a reading stands in a decision or pair cell, it stands in some process's proposal cell
  pub proposed : AllByRecursion (λ t. ((v : ℕ) → Decided v t → Proposed v t) × ((p v r : ℕ) → Bears p v r t → Proposed v t)) seen
  -- once the processes whose pair cell ever bore stamp r are enough, all pairs of stamp r or higher bear one reading
  pub held : (r : ℕ) (Q : List Bool) → enough Q ≡ true
      → ((k : ℕ) → k < n → has Q k ≡ true → (v : ℕ) × Ever (Bears (suc k) v r) seen)
      → (p q v w s t : ℕ) → r ≤ s → r ≤ t → Ever (Bears p v s) seen → Ever (Bears q w t) seen → v ≡ w

-- a panel over a store whose cells are all absent, every process down, with an empty tray
abbrev pub fresh : ℕ → (List Bool → Bool) → ℕ → State
fresh n enough places = record { size = n; enough = enough; places = places; statuses = replicate 9 Down; cells = absent; box = [] }

-- a state is a fresh one
abbrev pub Fresh : State → Type 0
Fresh s = s ≡ fresh s.size s.enough s.places

-- over every rule whose enough sets share a process, every number of places and every list of calls
abbrev pub Agreed : Type 0
Agreed = (n : ℕ) (enough : List Bool → Bool) → Shares n enough → (places : ℕ) (calls : List PanelCall) → Agreement n enough (run calls (fresh n enough places))
