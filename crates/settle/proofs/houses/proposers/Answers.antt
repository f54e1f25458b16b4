use Rattle.std.proofs.Common.{rules, false}
use Rattle.settle.proofs.Offers.{proposing_each}
use Rattle.settle.proofs.houses.proposers.Goals as goal

pub returns : goal.returns
returns g c =
    let made = c.from_fn.ensures.items in
    proposing_each (g.S.Store.cells c.args.store.now) 9 c.from_fn.result made.long (λ i h. let called = made.at i false h in search rules)
