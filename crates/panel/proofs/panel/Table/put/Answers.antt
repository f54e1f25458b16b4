use Rattle.panel.proofs.Kept.{ranged_put}
use Rattle.panel.proofs.panel.Table.put.Goals as goal

pub invariant_of-self-clause-ranged : goal.invariant_of-self-clause-ranged
invariant_of-self-clause-ranged c =
    let t = c.args.self.now in
    let p = c.args.p in
    rw c.place.ensures.value (ranged_put t.records p.number c.args.status p.low t.ranged c.requires)
