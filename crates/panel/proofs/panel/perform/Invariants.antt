use Rattle.std.proofs.Common.{◌≡◌, List, drop}
use Rattle.agreement.specs.Worlds.{World, performed}
use Rattle.process.specs.declared.memory.Action.{Action}
use Rattle.panel.specs.Records.{world_of}
use Rattle.tray.specs.Items.{places}
use Rattle.panel.proofs.panel.perform.Given as goal

abbrev pub invariant-loop-action : goal.invariant-loop-action
invariant-loop-action g l =
    let cells = g.S.Store.cells in
    let done : World → List Action → World = performed (places l.initial.tray) l.p.number in
    (done (world_of (cells l.initial.store) l.initial.tray) l.actions ≡ done (world_of (cells l.store) l.tray) (drop l.action-index l.actions))
    × (places l.tray ≡ places l.initial.tray)
