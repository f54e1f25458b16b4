use Rattle.std.proofs.Common.{rules}
use Rattle.process.specs.Looks.{look}
use Rattle.process.proofs.Lawful.{look_lawful}
use Rattle.process.proofs.turn.steps.look_turn.Goals as goal

pub returns-then-not-trusts_any-clause-value : goal.returns-then-not-trusts_any-clause-value
unfolding look
returns-then-not-trusts_any-clause-value g c = search rules

pub returns-then-not-trusts_any-clause-lawful : goal.returns-then-not-trusts_any-clause-lawful
returns-then-not-trusts_any-clause-lawful g c = λ k nk pn.
    let (n1, n9) = g.met.R.QuorumRule.sized c.args.rule.now in
    look_lawful _ k _ n1 n9 nk c.args.p.low pn _ _ _ _ _ (returns-then-not-trusts_any-clause-value g c) (λ f. f.0) (λ f. f.1) (λ f. f.2)

pub returns-in_err-round-clause-value : goal.returns-in_err-round-clause-value
unfolding look
returns-in_err-round-clause-value g c = search rules

pub returns-then-must_go-clause-value : goal.returns-then-must_go-clause-value
unfolding look
returns-then-must_go-clause-value g c = search rules

pub returns-then-must_go-clause-lawful : goal.returns-then-must_go-clause-lawful
returns-then-must_go-clause-lawful g c = λ k nk pn.
    let (n1, n9) = g.met.R.QuorumRule.sized c.args.rule.now in
    look_lawful _ k _ n1 n9 nk c.args.p.low pn _ _ _ _ _ (returns-then-must_go-clause-value g c) (λ f. f.0) (λ f. f.1) (λ f. f.2)

pub returns-clause-value : goal.returns-clause-value
unfolding look
returns-clause-value g c = search rules

pub returns-clause-lawful : goal.returns-clause-lawful
returns-clause-lawful g c = λ k nk pn.
    let (n1, n9) = g.met.R.QuorumRule.sized c.args.rule.now in
    look_lawful _ k _ n1 n9 nk c.args.p.low pn _ _ _ _ _ (returns-clause-value g c) (λ f. f.0) (λ f. f.1) (λ f. f.2)
