use Rattle.std.proofs.Common.{◌≡◌, length, take, drop}
use Rattle.panel.specs.Panels.{state_in}
use Rattle.panel.specs.Sittings.{answers_of, final}
use Rattle.panel.proofs.panel.Panel.sit.Given as goal

abbrev pub invariant-loop-i : goal.invariant-loop-i
invariant-loop-i g l =
    let state = state_in g.R.QuorumRule g.S.Store in
    let start = state l.initial.self l.initial.tray in
    let made = take l.i l.calls in
    (state l.self l.tray ≡ final made start)
    × (length l.answers ≡ length l.initial.answers)
    × (take l.i l.answers ≡ answers_of made start)
    × (drop l.i l.answers ≡ drop l.i l.initial.answers)
