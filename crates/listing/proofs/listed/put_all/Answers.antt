use Rattle.std.proofs.Common.{◌≡◌, true, is_none, is_ok, ap, sym, ◌∙◌, rules}
use Rattle.listing.specs.Lists.{vacant}
use Rattle.listing.proofs.Listings.{listing_all, listing_more, slot_gives}
use Rattle.std.proofs.lemmas.Iterator.{YieldsList-from_slice}
use Rattle.std.proofs.lemmas.Iterator.Adapters.{YieldsList-from_flatten}
use Rattle.std.proofs.lemmas.Iterator.Consumers.{YieldsList-at, YieldsList-end}
use Rattle.std.proofs.lemmas.Iterator.Search.{all_from_yields_List}
use Rattle.std.specs.Option.{option_to_list}
use borrow.Author.Tests.{tests}
use Rattle.listing.proofs.listed.put_all.Goals as goal

pub returns-then-all : goal.returns-then-all
returns-then-all g c =
    let v : c.all.result ≡ vacant c.args.slots.now =
    all_from_yields_List is_none _ _ _ c.all.ensures.ran (YieldsList-from_slice c.args.slots.now cc) (λ x b q k. search (rules, tests)) in
    let t : vacant c.args.slots.now ≡ true = sym v ∙ c.if-all.true in
    rw t c.write_str.ensures.writes

pub loop-x-preserved : goal.loop-x-preserved
loop-x-preserved g c =
    listing_more g.T.Written.text g.W.Write.write_str_gives c.loop-x.yielded c.in-Some.x c.args.f.now c.loop-x.f c.put.new.f c.put.result
    c.loop-x.invariant (ap is_ok c.in_ok-put.was) c.put.ensures

pub returns : goal.returns
returns g c =
    let v : c.all.result ≡ vacant c.args.slots.now =
    all_from_yields_List is_none _ _ _ c.all.ensures.ran (YieldsList-from_slice c.args.slots.now cc) (λ x b q k. search (rules, tests)) in
    let seen = YieldsList-end
    (YieldsList-at c.into_iter-x-iterator.ensures.into_iter_gives
    (YieldsList-from_flatten _ _ (λ x. x.now) option_to_list (λ x j b. slot_gives x.now b.0 b.1)
    (YieldsList-at c.flatten-x-items.ensures.source (YieldsList-from_slice c.args.slots.now cc))
    c.flatten-x-items.ensures.front c.flatten-x-items.ensures.back c.flatten-x-items.ensures.done))
    c.loop-x.yielded _ c.loop-x.yielded_by _ _ c.in-None.is c.next.ensures.steps in
    λ p o. listing_all g.T.Written.text g.W.Write.write_str_gives c.args.slots.now c.loop-x.yielded c.args.f.now c.loop-x.f
    c.loop-x.invariant seen.0 (sym c.if-all.false ∙ v) p
