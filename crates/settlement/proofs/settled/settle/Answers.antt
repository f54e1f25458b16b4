use Rattle.std.proofs.Common.{subst}
use Rattle.settlement.specs.Settled.{FirstDecision}
use Rattle.settlement.proofs.Decisions.{only_decision, sat_at}
use Rattle.settlement.proofs.settled.settle.Goals as goal

pub returns : goal.returns
returns g c =
    let sat = sat_at c.args.calls.now c.sit.ensures.count c.sit.ensures.sat in
    let first = subst (λ x. FirstDecision (g.S.Store.cells x) c.first_decision.result) c.store.ensures c.first_decision.ensures in
    record {
      sat = sat;
      first = first;
      only = λ fresh. only_decision _ _ _ _ (sat.agreed fresh) _ c.first_decision.result sat.after first;
    }
