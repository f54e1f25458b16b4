use Rattle.std.proofs.Common.{ltb, length, ap, subst, ◌+◌, ◌-◌, ◌∙◌, arith}
use Rattle.tray.specs.Best.{Chosen}
use Rattle.tray.specs.Items.{items, places}
use Rattle.tray.specs.Kinds.{prefers_estimate}
use Rattle.settle.specs.Houses.{offers}
use Rattle.settle.proofs.Offers.{offers_none, offers_put}
use Rattle.settle.proofs.houses.best_offer.Goals as goal
use Rattle.settle.proofs.houses.best_offer.Goals.{in-Some, in_default}

pub loop-house-preserved : goal.loop-house-preserved
loop-house-preserved g c =
    let cs = g.S.Store.cells c.args.store.now in
    let p = c.loop-house.house in
    let before = items c.loop-house.tray in
    let inv = c.loop-house.invariant in
    elim c.match-estimate_of.branch [
      | in-Some w ↦ (
        ap items w.tray-is
            ∙ offers_put cs (p - 1) p (p + 1 - 1) (omega arith) (omega arith) before (items w.put.new.self) w.in-Some.offer _ 9 inv.0 w.in-Some.ensures (omega arith)
            (w.put.ensures.test ∙ ap (ltb (length before)) inv.1) w.put.ensures.list,
        ap places w.tray-is ∙ (w.put.ensures.room ∙ inv.1),
      )
      | in_default w ↦ (
        ap items w.tray-is ∙ offers_none cs (p - 1) p (p + 1 - 1) (omega arith) (omega arith) before inv.0 w.in_default.ensures,
        ap places w.tray-is ∙ inv.1,
      )
    ]

pub returns : goal.returns
returns g c =
    let cs = g.S.Store.cells c.args.store.now in
    let all = c.loop-house.invariant.0 in
    subst (λ xs. Chosen prefers_estimate xs c.best_of_tray.result) (all ∙ ap (offers cs) {x = c.loop-house.house - 1} {y = 9} (omega arith)) c.best_of_tray.ensures.chosen
