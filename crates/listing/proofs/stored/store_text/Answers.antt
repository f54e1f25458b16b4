use Rattle.std.proofs.Common.{[], ap, ◌∙◌, rules}
use Rattle.listing.specs.Stored.{line_of}
use Rattle.listing.proofs.Printing.{lines_all}
use Rattle.listing.proofs.Tables.{from_fn_is}
use Rattle.std.specs.List.{flat_map}
use borrow.Author.Tests.{tests}
use Rattle.listing.proofs.stored.store_text.Goals as goal

pub returns : goal.returns
returns g c =
    let cs = g.S.Store.cells c.args.store.now in
    c.copy_from_slice.ensures.after ∙ c.as_flattened.ensures.value
    ∙ ap (flat_map (λ x. x)) (from_fn_is (line_of cs) c.from_fn-lines.result 36 [] c.from_fn-lines.ensures.items (λ k y q h. search (rules, tests, h.met)))
    ∙ lines_all cs 36
