use Rattle.std.proofs.Common.{◌≡◌, ◌-◌}
use Rattle.tray.specs.Items.{items, places}
use Rattle.process.specs.Looks.{candidates, may_enter}
use Rattle.process.proofs.lists.find_next.Given as goal

abbrev pub invariant-loop-number : goal.invariant-loop-number
invariant-loop-number g l =
    (items l.tray ≡ candidates (may_enter (g.R.QuorumRule.processes l.rule) l.list l.memory) l.start (l.number - l.start)) × (places l.tray ≡ 9)
