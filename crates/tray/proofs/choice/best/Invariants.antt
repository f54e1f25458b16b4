use Rattle.std.specs.List.{IsFirstBest}
use Rattle.tray.proofs.First.{beats}
use Rattle.tray.proofs.choice.best.Given as goal

-- the place is the best of the first i
abbrev pub invariant-loop-i : goal.invariant-loop-i
invariant-loop-i g l = IsFirstBest (beats g.T.Preference.prefers) l.items l.i l.top
