-- What a tray means: a list, and a number of places.
use Rattle.std.specs.Prelude.{ℕ, zero, suc, List, length, take, None, Option}
use Rattle.std.specs.List.{slice_get, remove}
use Rattle.tray.specs.declared.Tray.{Tray}

-- what a tray holds, in order
abbrev pub items : {T : Type 0} → Tray T → List T
items t = take t.len t.slots.now

-- how many it can hold
abbrev pub places : {T : Type 0} → Tray T → ℕ
places t = length t.slots.now

-- the element at a place counted from 1, or none where the list lacks that place
abbrev pub element : {T : Type 0} → List T → ℕ → Option T
element xs zero = None
element xs (suc i) = slice_get xs i

-- the list with the element at a place counted from 1 taken out, if it has that place
abbrev pub without : {T : Type 0} → List T → ℕ → List T
without xs zero = xs
without xs (suc i) = remove xs i
