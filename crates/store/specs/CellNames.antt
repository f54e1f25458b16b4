-- The cells of a process: their numbers, and how they are spelled.
use Rattle.std.specs.Prelude.{ℕ, cond, List, Ok, Err, Result, codes, ◌==◌}
use Rattle.store.specs.declared.content.CellName.{CellName}
use Rattle.store.specs.declared.content.CellName.TheVariants.{Proposal, Round, Pair, Decision}
use Rattle.store.specs.declared.content.Refusal.{Refusal}
use Rattle.store.specs.declared.content.Refusal.TheVariants.{NoSuchCell}

-- the number of a cell
abbrev pub cell_number : CellName → ℕ
cell_number Proposal = 1
cell_number Round = 2
cell_number Pair = 3
cell_number Decision = 4

-- the cell of a number
abbrev pub named : ℕ → Result CellName Refusal
named n =
    cond (n == 1) (Ok Proposal) (cond (n == 2) (Ok Round) (cond (n == 3) (Ok Pair) (cond (n == 4) (Ok Decision) (Err NoSuchCell))))

-- how a cell is spelled
abbrev pub spelled : CellName → List ℕ
spelled Proposal = codes "proposal"
spelled Round = codes "round"
spelled Pair = codes "pair"
spelled Decision = codes "decision"
