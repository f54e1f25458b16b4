use Rattle.std.proofs.Common.{◌≡◌, ◌≤◌}
use Rattle.listing.specs.Stored.{told_count}
use Rattle.listing.proofs.stored.count_cells.Given as goal

abbrev pub invariant-loop-k : goal.invariant-loop-k
invariant-loop-k g l = (l.count ≤ l.k) × (l.count ≡ told_count (g.S.Store.cells l.store) l.k)
