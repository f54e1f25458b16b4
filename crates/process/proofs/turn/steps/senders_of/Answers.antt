use Rattle.std.proofs.Common.{◌≡◌, length, get_or, is_some, None, sym, ◌∙◌, arith, rules}
use Rattle.std.proofs.lemmas.List.{same_lists, get_or-map, length-map}
use Rattle.process.specs.Rounds.{senders}
use Rattle.process.proofs.turn.steps.senders_of.Goals as goal

pub returns : goal.returns
returns c =
    let ks = c.args.estimates.now in
    let nine : length ks ≡ 9 = search rules in
    same_lists c.map.result (senders ks) (search (rules, length-map))
    (λ k d l.
    let (p, q, called) = c.map.ensures.items.at k None d (omega (arith, c.map.ensures.items.long)) in
    let one : get_or c.map.result k d ≡ is_some (get_or ks k None) = search rules in
    one ∙ sym (get_or-map is_some ks k None d (omega (arith, c.map.ensures.items.long))))
