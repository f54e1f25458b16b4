use Rattle.printed.proofs.Kept.{Right}
use Rattle.printed.proofs.inspect.Given as goal

abbrev pub invariant-loop-k : goal.invariant-loop-k
invariant-loop-k l = Right l.bytes l.k
