use Rattle.std.proofs.Common.{◌≡◌, ℕ, Bool, true, eqb, List, sym, ap, ◌∙◌, rules}
use Rattle.std.proofs.lemmas.Bool.{cond-true}
use Rattle.process.specs.Rounds.{Step, begin, coordinator, enter, lead, remember, settle, write}
use Rattle.process.proofs.Deliveries.{enter_first}
use Rattle.process.proofs.turn.Turn.enter.Goals as goal
use Rattle.store.specs.declared.content.CellName.TheVariants as CellName

leads : (n p r c : ℕ) (enough : List Bool → Bool) (s t u v : Step) → c ≡ coordinator n r → eqb p c ≡ true
    → t ≡ write CellName.Round r 0 (remember (begin r) s) → u ≡ lead n p r t → v ≡ settle n p enough u → v ≡ enter n p enough r s
unfolding enter
leads n p r c enough s t u v is same begun led settled =
    settled ∙ ap (settle n p enough) (led ∙ ap (lead n p r) begun) ∙ sym (cond-true (eqb p (coordinator n r)) _ _ (sym (ap (eqb p) is) ∙ same))

pub returns-then-eq-clause-value : goal.returns-then-eq-clause-value
returns-then-eq-clause-value g c =
    leads _ _ _ _ _ _ _ _ _ c.coordinator_of-coordinator.ensures (sym c.eq.ensures ∙ c.if-eq.true) c.begin.ensures.value c.lead.ensures.value c.settle.ensures

pub returns-then-eq-clause-first : goal.returns-then-eq-clause-first
returns-then-eq-clause-first g c = enter_first _ _ _ _ _ _ (returns-then-eq-clause-value g c)

pub returns-else-eq-clause-value : goal.returns-else-eq-clause-value
unfolding enter
returns-else-eq-clause-value g c = search rules

pub returns-else-eq-clause-first : goal.returns-else-eq-clause-first
returns-else-eq-clause-first g c = enter_first _ _ _ _ _ _ (returns-else-eq-clause-value g c)
