use Rattle.settlement.specs.Settled.{NoneBelow}
use Rattle.settlement.proofs.settled.first_decision.Given as goal

abbrev pub invariant-loop-p : goal.invariant-loop-p
invariant-loop-p g l = NoneBelow (g.S.Store.cells l.store) l.p
