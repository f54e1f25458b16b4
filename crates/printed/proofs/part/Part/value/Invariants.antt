use Rattle.printed.proofs.Fields.{Front}
use Rattle.printed.proofs.part.Part.value.Given as goal

abbrev pub invariant-loop-i : goal.invariant-loop-i
invariant-loop-i l = Front l.self.bytes.now l.i l.n
