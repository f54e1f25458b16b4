use Rattle.std.proofs.Common.{◌≡◌, ◌<◌, ◌≤◌, ℕ, length, slice_index}
use Rattle.quorum.proofs.weights.to_places.Given as goal

-- the first i weights are in their places, and none is above 99
abbrev pub invariant-loop-i : goal.invariant-loop-i
invariant-loop-i l =
    (length l.each ≡ 9) × ((k : ℕ) → k < l.i → slice_index l.each k ≡ slice_index l.weights k) × ((k : ℕ) → k < l.i → slice_index l.weights k ≤ 99)
