use Rattle.std.proofs.Common.{length}
use Rattle.script.proofs.Entries.{Read}
use Rattle.script.proofs.row.read_row.Given as goal
use Rattle.script.specs.Words.{words}

abbrev pub invariant-loop-word : goal.invariant-loop-word
invariant-loop-word g l = Read g.E.Entry.free g.E.Entry.reads l.row (words l.line) (words l.rest)

abbrev pub decreases-loop-word : goal.decreases-loop-word
decreases-loop-word g l = length l.rest
