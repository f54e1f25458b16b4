use Rattle.std.proofs.Common.{◌≡◌, map}
use Rattle.tray.specs.Items.{items, places}
use Rattle.process.proofs.turn.steps.best_of_kept.Given as goal

abbrev pub invariant-loop-estimate : goal.invariant-loop-estimate
invariant-loop-estimate l = (items l.tray ≡ map (λ e. e.now) l.yielded) × (places l.tray ≡ 9)
