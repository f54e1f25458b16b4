-- What numbers a memory may hold, and what actions a process may do.
use Rattle.std.specs.Prelude.{ℕ, Bool, true, cond, ◌&&◌, List, Some, None, Option, ◌==◌, nat_le}
use Rattle.std.specs.List.{list_all}
use Rattle.store.specs.CellNames.{cell_number}
use Rattle.store.specs.Ranges.{is_cell, fits}
use Rattle.tray.specs.declared.kinds.Estimate.{Estimate}
use Rattle.process.specs.declared.message.Message.{Message}
use Rattle.process.specs.declared.memory.Action.{Action}
use Rattle.process.specs.declared.memory.Action.TheVariants.{Write, Send}
use Rattle.process.specs.declared.memory.Memory.{Memory}
use Rattle.process.specs.Messages.{is_round, is_reading, well_formed}
use Rattle.process.specs.Phases.{is_active}

-- what process p writes is in its cell's range, and what it sends is well-formed and names p as the sender
abbrev pub act_fits : ℕ → ℕ → Action → Bool
act_fits n p (Write c v) = is_cell p (cell_number c) && fits (cell_number c) v
act_fits n p (Send m) = well_formed n m && m.sender == p

-- every element passes a test
abbrev pub every : {A : Type 0} → (A → Bool) → List A → Bool
every test xs = list_all test xs

-- what is there passes a test
abbrev pub any_there : {A : Type 0} → (A → Bool) → Option A → Bool
any_there test None = true
any_there test (Some x) = test x

-- an estimate in range
abbrev pub estimate_fits : Estimate → Bool
estimate_fits e = is_reading e.reading && nat_le e.stamp 999999

-- a last message of process p is one that it may send again
abbrev pub last_fits : ℕ → ℕ → Message → Bool
last_fits n p m = well_formed n m && m.sender == p

-- in a round: the round, the reading with its stamp, and the kept estimates are in range
abbrev pub round_fits : Memory → Bool
round_fits y =
    is_round y.round && is_reading y.reading && nat_le y.stamp 999999 && every (any_there estimate_fits) y.kept

-- a memory in range; one that is in no round may hold any round and reading
abbrev pub memory_fits : ℕ → ℕ → Memory → Bool
memory_fits n p y =
    nat_le y.heard 999999 && any_there (λ k. nat_le k 999999) y.epoch && every (any_there (last_fits n p)) y.last
    && cond (is_active y.phase) (round_fits y) true
