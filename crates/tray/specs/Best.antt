-- The best of a list under a preference.
use Rattle.std.specs.Prelude.{◌≡◌, ℕ, ◌-◌, ◌<◌, ◌≤◌, Bool, true, cond, List, [], ◌∷◌, length, Some, None, Option, slice_index_or}
use Rattle.tray.specs.Items.{element}

-- the list has a place p, counted from 1, and its element is preferred at least as much as every one
abbrev pub Top : {T : Type 0} → (T → T → Bool) → List T → ℕ → Type 0
Top {T} prefers xs p =
    (1 ≤ p) × (p ≤ length xs) × ((k : ℕ) (d : T) → k < length xs → prefers (slice_index_or xs (p - 1) d) (slice_index_or xs k d) ≡ true)

-- the first such place; an empty list has none
abbrev pub Best : {T : Type 0} → (T → T → Bool) → List T → Option ℕ → Type 0
Best prefers xs None = length xs ≡ 0
Best prefers xs (Some p) = Top prefers xs p × ((q : ℕ) → q < p → Top prefers xs q → ⊥)

-- what stands there; of an empty list nothing
abbrev pub Chosen : {T : Type 0} → (T → T → Bool) → List T → Option T → Type 0
Chosen prefers xs None = length xs ≡ 0
Chosen prefers xs (Some x) = (p : ℕ) × Best prefers xs (Some p) × (element xs p ≡ Some x)

-- of an element and the best of those after it, the one that is preferred
abbrev pub better : {T : Type 0} → (T → T → Bool) → T → Option T → Option T
better prefers x None = Some x
better prefers x (Some y) = cond (prefers x y) (Some x) (Some y)

-- the element that is chosen
abbrev pub best_of : {T : Type 0} → (T → T → Bool) → List T → Option T
best_of prefers [] = None
best_of prefers (x ∷ xs) = better prefers x (best_of prefers xs)
