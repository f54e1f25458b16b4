use Rattle.std.proofs.Common.{sym, refl, subst, rules}
use Rattle.process.specs.Laws.{Gains, KeptOnce, RepeatedAck}
use Rattle.process.proofs.Deliveries.{deliver_gains, deliver_again, deliver_once}
use Rattle.process.proofs.Lawful.{deliver_lawful}
use Rattle.process.proofs.turn.steps.deliver_turn.Goals as goal

pub returns-clause-value : goal.returns-clause-value
returns-clause-value g c = search rules

pub returns-clause-lawful : goal.returns-clause-lawful
returns-clause-lawful g c = λ k nk pn.
    let a = c.args in
    let (n1, n9) = g.met.R.QuorumRule.sized a.rule.now in
    deliver_lawful _ k _ n1 n9 nk a.letter.addressee_low pn _ _ a.letter.message a.memory a.decision _ refl (returns-clause-value g c) (λ f. f.0) (λ f. f.1) (λ f. f.2)

pub returns-clause-gains : goal.returns-clause-gains
returns-clause-gains g c =
    let a = c.args in
    subst (λ t. Gains a.letter.message.addressee a.letter.message a.memory t.memory) (sym (returns-clause-value g c)) (deliver_gains _ _ _ a.letter.message a.memory a.decision)

pub returns-clause-repeated : goal.returns-clause-repeated
returns-clause-repeated g c =
    let a = c.args in
    subst (RepeatedAck _ a.letter.message a.memory) (sym (returns-clause-value g c)) (deliver_again _ _ _ a.letter.message a.memory a.decision)

pub returns-clause-once : goal.returns-clause-once
returns-clause-once g c =
    let a = c.args in
    subst (λ t. KeptOnce a.letter.message a.memory t.memory) (sym (returns-clause-value g c)) (deliver_once _ _ _ a.letter.message a.memory a.decision)
