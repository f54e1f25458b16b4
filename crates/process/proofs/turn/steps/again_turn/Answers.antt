use Rattle.std.proofs.Common.{true, arith, rules}
use Rattle.process.proofs.Lawful.{again_lawful}
use Rattle.process.proofs.turn.steps.again_turn.Goals as goal

pub returns-clause-value : goal.returns-clause-value
returns-clause-value c = search rules

pub returns-clause-lawful : goal.returns-clause-lawful
returns-clause-lawful c = λ n p n1 n9 p1 pn. again_lawful n n p n1 n9 (omega arith) p1 pn _ (λ _. true) _ _ (omega (arith, c.repeat_last.ensures.nine)) (returns-clause-value c) (λ f. f)
