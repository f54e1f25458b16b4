use Rattle.std.proofs.Common.{◌+◌, false, get_or, None, ◌∙◌, rules}
use Rattle.listing.proofs.Listings.{members_all}
use Rattle.listing.proofs.Tables.{from_fn_is}
use Rattle.std.specs.Bool.{then_some}
use borrow.Author.Tests.{tests}
use Rattle.listing.proofs.listed.members_of.Goals as goal

pub returns : goal.returns
returns c =
    let bs = c.args.set.now in
    from_fn_is (λ i. then_some (get_or bs i false) (1 + i)) c.from_fn.result 9 None c.from_fn.ensures.items (λ k y q h. search (rules, tests))
    ∙ members_all bs c.told-set
