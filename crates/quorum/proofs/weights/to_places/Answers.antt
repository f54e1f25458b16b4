use Rattle.std.proofs.Common.{◌<◌, length, sym, ◌∙◌, nat_le, arith}
use Rattle.std.proofs.lemmas.List.{ext_get_or, get_or-take, length-take}
use Rattle.std.proofs.lemmas.List.Sums.{list_all-from_AllPass}
use Rattle.std.proofs.lemmas.Grind.{get_or_default_zero}
use Rattle.std.proofs.lemmas.Bool.{le-leb}
use Rattle.quorum.proofs.weights.to_places.Goals as goal

pub returns-clause-test : goal.returns-clause-test
returns-clause-test c =
    let ws = c.args.weights.now in
    sym (list_all-from_AllPass (λ w. nat_le w 99) ws (λ k d h. rw (get_or_default_zero ws k d h) (le-leb _ _ (c.loop-i.invariant.2 k (omega arith)))))

pub returns-clause-kept : goal.returns-clause-kept
returns-clause-kept c =
    ext_get_or 0 _ _ (simp length-take (omega arith))
    (λ k h. let k' : k < length c.args.weights.now = omega (arith, simp length-take at h) in
    get_or-take _ c.loop-i.each k 0 k' ∙ c.loop-i.invariant.1 k (omega arith))
