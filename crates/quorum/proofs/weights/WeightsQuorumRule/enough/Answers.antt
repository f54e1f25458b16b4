use Rattle.std.proofs.Common.{◌≡◌, ℕ, ◌*◌, ◌≤◌, Fits, w8, w32, List, Bool, [], ◌∷◌, length, slice_index, suc, length-take, rules, arith}
use Rattle.quorum.specs.Rules.{weight, total}
use Rattle.quorum.specs.Weighing.{weight_le, total_cons}
use Rattle.quorum.proofs.weights.WeightsQuorumRule.enough.Goals as goal

-- weights that fit a byte
total_fits : (ws : List ℕ) → ((k : ℕ) → Fits w8 (slice_index ws k)) → total ws ≤ 255 * length ws
total_fits [] h = omega arith
total_fits (w ∷ ws) h = omega (arith, h 0, total_fits ws (λ k. h (suc k)), total_cons w ws)

twice_fits : (n : ℕ) (ws : List ℕ) (s : List Bool) → n ≡ weight ws s → ((k : ℕ) → Fits w8 (slice_index ws k)) → length ws ≤ 9 → Fits w32 (2 * n)
twice_fits n ws s e h l = omega (arith, weight_le ws s, total_fits ws h)

pub overflow_mul-result : goal.overflow_mul-result
overflow_mul-result c =
    let l : length c.as_slice-weights.result.now ≤ 9 = rw c.as_slice-weights.ensures (simp length-take (omega arith)) in
    search (rules, twice_fits)
