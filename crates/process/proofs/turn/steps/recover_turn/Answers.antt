use Rattle.std.proofs.Common.{rules}
use Rattle.process.specs.Rounds.{recover}
use Rattle.process.proofs.Lawful.{recover_lawful}
use Rattle.process.proofs.turn.steps.recover_turn.Goals as goal

pub returns-in-Some-default-clause-value : goal.returns-in-Some-default-clause-value
unfolding recover
returns-in-Some-default-clause-value g c = search rules

pub returns-in-Some-default-clause-lawful : goal.returns-in-Some-default-clause-lawful
returns-in-Some-default-clause-lawful g c = λ k nk pn.
    let (n1, n9) = g.met.R.QuorumRule.sized c.args.rule.now in
    recover_lawful _ k _ n1 n9 nk c.args.p.low pn _ _ _ _ (returns-in-Some-default-clause-value g c) (λ f. f)

pub returns-in-None-None-clause-value : goal.returns-in-None-None-clause-value
unfolding recover
returns-in-None-None-clause-value g c = search rules

pub returns-in-None-None-clause-lawful : goal.returns-in-None-None-clause-lawful
returns-in-None-None-clause-lawful g c = λ k nk pn.
    let (n1, n9) = g.met.R.QuorumRule.sized c.args.rule.now in
    recover_lawful _ k _ n1 n9 nk c.args.p.low pn _ _ _ _ (returns-in-None-None-clause-value g c) (λ f. f)

pub returns-in-None-Some-clause-value : goal.returns-in-None-Some-clause-value
unfolding recover
returns-in-None-Some-clause-value g c = search rules

pub returns-in-None-Some-clause-lawful : goal.returns-in-None-Some-clause-lawful
returns-in-None-Some-clause-lawful g c = λ k nk pn.
    let (n1, n9) = g.met.R.QuorumRule.sized c.args.rule.now in
    recover_lawful _ k _ n1 n9 nk c.args.p.low pn _ _ _ _ (returns-in-None-Some-clause-value g c) (λ f. f)
