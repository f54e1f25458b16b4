use Rattle.std.proofs.Common.{rules, tests, ◌≡◌, ℕ, ◌*◌, Bool, true, false, cond, List, [], ◌∷◌, length, take, map, filter, refl, ◌∙◌, arith}
use Rattle.std.specs.List.{sum_by, zip}
use Rattle.std.proofs.lemmas.Iterator.{YieldsList-from_slice, YieldsList-from_map, YieldsList-from_zip}
use Rattle.std.proofs.lemmas.Iterator.Consumers.{YieldsList-at, sum_by_from_yields_List}
use Rattle.std.proofs.lemmas.List.Sums.{sum_by-cons}
use Rattle.quorum.specs.Rules.{weight}
use Rattle.quorum.proofs.weights.weigh.Goals as goal

-- a weight once for a member, and else not at all
abbrev product : ℕ × Bool → ℕ
product p = p.0 * cond p.1 1 0

products : (ws : List ℕ) (s : List Bool) → sum_by product (zip ws (take (length ws) s)) ≡ weight ws s
products [] s = refl
products (w ∷ ws) [] = refl
products (w ∷ ws) (true ∷ s) =
    omega (arith, products ws s, sum_by-cons product (w, true) (zip ws (take (length ws) s)), sum_by-cons (λ x. x) w (map (λ p. p.0) (filter (λ p. p.1) (zip ws s))))
products (w ∷ ws) (false ∷ s) =
    omega (arith, products ws s, sum_by-cons product (w, false) (zip ws (take (length ws) s)))

pub returns : goal.returns
returns c =
    let ws = c.args.weights.now in
    let front = take (length ws) c.args.set.now in
    sum_by_from_yields_List product (zip ws front) c.map.result _ c.sum.ensures.ran
    (YieldsList-from_map _ product
    (YieldsList-at c.map.ensures.source (YieldsList-from_zip (YieldsList-from_slice ws cc) (YieldsList-from_slice front cc)))
    c.map.ensures.closure (λ x r q k. search (rules, tests)))
    ∙ products ws c.args.set.now
