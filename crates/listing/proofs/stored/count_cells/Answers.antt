use Rattle.std.proofs.Common.{◌≡◌, ◌+◌, ◌≤◌, cond, is_some, ap, ◌∙◌, arith, rules}
use Rattle.listing.proofs.Printing.{count_more, count_none}
use Rattle.listing.proofs.stored.count_cells.Goals as goal
use Rattle.listing.proofs.stored.count_cells.Goals.{then-is_some, else-is_some}

pub loop-k-init : goal.loop-k-init
loop-k-init g c = (omega arith, count_none (g.S.Store.cells c.args.store.now))

pub loop-k-preserved : goal.loop-k-preserved
loop-k-preserved g c =
    let m : c.if-is_some.count ≡ c.loop-k.count + cond c.is_some.result 1 0 =
    elim c.if-is_some.branch [ then-is_some w ↦ search rules | else-is_some w ↦ search rules ] in
    let l : c.if-is_some.count ≤ c.loop-k.count + 1 =
    elim c.if-is_some.branch [ then-is_some w ↦ search rules | else-is_some w ↦ search rules ] in (
      omega arith,
      count_more (g.S.Store.cells c.args.store.now) c.loop-k.k c.loop-k.count c.if-is_some.count c.is_some.result
          c.loop-k.invariant.1 (c.is_some.ensures ∙ ap is_some c.cell_line.ensures) m,
    )
