use Rattle.std.proofs.Common.{rules}
use Rattle.process.specs.Rounds.{propose}
use Rattle.process.proofs.Lawful.{propose_lawful}
use Rattle.process.proofs.turn.steps.propose_turn.Goals as goal

pub returns-clause-value : goal.returns-clause-value
unfolding propose
returns-clause-value g c = search rules

pub returns-clause-lawful : goal.returns-clause-lawful
returns-clause-lawful g c = λ k nk pn.
    let (n1, n9) = g.met.R.QuorumRule.sized c.args.rule.now in
    propose_lawful _ k _ n1 n9 nk c.args.p.low pn _ _ _ _ _ (returns-clause-value g c) (λ f. f.0) (λ f. f.1)
