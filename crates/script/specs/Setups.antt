-- The set-up that the words of a line are.
use Rattle.std.specs.Prelude.{ℕ, cond, ◌&&◌, List, [], ◌∷◌, Some, None, codes, Option}
use Rattle.script.specs.declared.setup.RuleLine.{RuleLine}
use Rattle.script.specs.declared.setup.RuleLine.TheVariants.{Majority, Weights, Grid}
use Rattle.script.specs.declared.setup.StoreLine.{StoreLine}
use Rattle.script.specs.declared.setup.StoreLine.TheVariants.{Table, Fresh, Saved}
use Rattle.script.specs.Calls.{ended, last, lone_number}
use Rattle.script.specs.Rows.{beyond, entries, row_of}
use Rattle.script.specs.Words.{number}
use Rattle.std.specs.Option.{option_and_then, option_map}
use Rattle.std.specs.Str.{bytes_eq}

-- the words after a name
abbrev pub after_name : List ℕ → List (List ℕ) → Option (List (List ℕ))
after_name name [] = None
after_name name (w ∷ ws) = cond (bytes_eq w name) (Some ws) None

-- weights, and nothing more
abbrev pub weights : List (List ℕ) → Option RuleLine
weights ws = last (Weights (row_of 0 (entries number ws))) (beyond number ws)

-- a kind of rule
abbrev pub kind_of_rule : List (List ℕ) → Option RuleLine
kind_of_rule [] = None
kind_of_rule (w ∷ ws) =
    cond (bytes_eq w (codes "majority")) (option_map Majority (lone_number ws))
    (cond (bytes_eq w (codes "weights")) (weights ws)
    (cond (bytes_eq w (codes "grid") && ended ws) (Some Grid) None))

-- the rule that a line is
abbrev pub rule : List (List ℕ) → Option RuleLine
rule ws = option_and_then kind_of_rule (after_name (codes "rule") ws)

-- a line with another thing in place of its path
abbrev pub with_saved : {P Q : Type 0} → (P → Q) → StoreLine P → StoreLine Q
with_saved f Table = Table
with_saved f Fresh = Fresh
with_saved f (Saved p) = Saved (f p)

-- a printed store: fresh, or over the bytes of a file
abbrev pub printed : List (List ℕ) → Option (StoreLine (List ℕ))
printed [] = Some Fresh
printed (w ∷ ws) = last (Saved w) ws

-- a kind of store
abbrev pub kind_of_store : List (List ℕ) → Option (StoreLine (List ℕ))
kind_of_store [] = None
kind_of_store (w ∷ ws) =
    cond (bytes_eq w (codes "table") && ended ws) (Some Table)
    (cond (bytes_eq w (codes "printed")) (printed ws) None)

-- the store that a line is
abbrev pub store : List (List ℕ) → Option (StoreLine (List ℕ))
store ws = option_and_then kind_of_store (after_name (codes "store") ws)

-- the places of a tray that a line is
abbrev pub places : List (List ℕ) → Option ℕ
places ws = option_and_then lone_number (after_name (codes "tray") ws)
