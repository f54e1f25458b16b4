-- What the records of a panel may hold, and what is seen of a store and a tray.
use Rattle.std.specs.Prelude.{◌≡◌, ℕ, suc, Bool, true, List, slice_index_or}
use Rattle.store.specs.Cells.{Cells}
use Rattle.tray.specs.Items.{items}
use Rattle.tray.specs.declared.Tray.{Tray}
use Rattle.process.specs.Ranges.{memory_fits}
use Rattle.process.specs.declared.message.Message.{Message}
use Rattle.process.specs.declared.memory.Status.{Status}
use Rattle.process.specs.declared.memory.Status.TheVariants.{Down, Up}
use Rattle.agreement.specs.Worlds.{World}

-- process p, where it is up, remembers what is in range
abbrev pub status_fits : ℕ → Status → Bool
status_fits p Down = true
status_fits p (Up m) = memory_fits 9 p m

-- every process does
abbrev pub Ranged : List Status → Type 0
Ranged records = (i : ℕ) → status_fits (suc i) (slice_index_or records i Down) ≡ true

-- what is seen from outside, by a store's cells and a tray
abbrev pub world_of : Cells → Tray Message → World
world_of cs t = record { cells = cs; box = items t }
