use Rattle.std.proofs.Common.{◌≡◌, ◌-◌}
use Rattle.settle.specs.Houses.{offers}
use Rattle.tray.specs.Items.{items, places}
use Rattle.settle.proofs.houses.best_offer.Given as goal

abbrev pub invariant-loop-house : goal.invariant-loop-house
invariant-loop-house g l = (items l.tray ≡ offers (g.S.Store.cells l.store) (l.house - 1)) × (places l.tray ≡ 9)
