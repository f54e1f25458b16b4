-- What can be seen of a panel from outside, and what actions do to it.
use Rattle.std.specs.Prelude.{ℕ, cond, List, [], ◌∷◌, ◌++◌, length, fold, nat_lt}
use Rattle.store.specs.Cells.{Cells, put}
use Rattle.store.specs.CellNames.{cell_number}
use Rattle.process.specs.declared.message.Message.{Message}
use Rattle.process.specs.declared.memory.Action.{Action}
use Rattle.process.specs.declared.memory.Action.TheVariants.{Write, Send}

-- the cells, and the messages that wait
pub record World : Type 0 where
  pub cells : Cells
  pub box : List Message

-- the messages after one is put at the end; a full tray loses it
abbrev pub sent : ℕ → List Message → Message → List Message
sent places box m = cond (nat_lt (length box) places) (box ++ m ∷ []) box

-- one action of process p
abbrev pub act : ℕ → ℕ → World → Action → World
act places p w (Write c v) = record { cells = put w.cells p (cell_number c) v; box = w.box }
act places p w (Send m) = record { cells = w.cells; box = sent places w.box m }

-- actions, in order
abbrev pub performed : ℕ → ℕ → World → List Action → World
performed places p w acts = fold (act places p) w acts

-- the moments from before the first action to after the last
abbrev pub moments : ℕ → ℕ → World → List Action → List World
moments places p w [] = w ∷ []
moments places p w (a ∷ acts) = w ∷ moments places p (act places p w a) acts
