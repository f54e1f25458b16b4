-- One decision after a run that agrees.
use Rattle.std.proofs.Common.{◌≡◌, ℕ, Bool, List, [], ◌∷◌, ◌++◌, take, Some, None, Option, Result, sym, ap, subst, inl, inr, arith}
use Rattle.agreement.specs.Lists.{PanelCall}
use Rattle.agreement.specs.declared.call.Refusal.{Refusal}
use Rattle.agreement.specs.Calls.{State, done, run, shown, verdict, world}
use Rattle.agreement.specs.Promise.{Agreement, Ever, Holds, Settled}
use Rattle.agreement.specs.Worlds.{World}
use Rattle.panel.specs.Sittings.{Sat, final}
use Rattle.store.specs.declared.content.Content.{Content}
use Rattle.settlement.specs.Settled.{FirstDecision, OnlyDecision}

ever_right : {A : Type 0} (P : A → Type 0) (xs ys : List A) → Ever P ys → Ever P (xs ++ ys)
ever_right P [] ys h = h
ever_right P (x ∷ xs) ys h = inr (ever_right P xs ys h)

-- what holds after the last call is seen
last_seen : (P : World → Type 0) (cs : List PanelCall) (s : State) → P (world (final cs s)) → Ever P (run cs s)
unfolding run
last_seen P [] s h = inl h
last_seen P (c ∷ cs) s h = ever_right P (shown (verdict c s) s) (run cs (done (verdict c) s).after) (last_seen P cs (done (verdict c) s).after h)

-- an absent cell holds nothing
holds_none : (o : Option Content) (v : ℕ) → o ≡ None → Holds o v → ⊥
holds_none o v e h = subst (λ x. Holds x v) e h

module _ (n : ℕ) (enough : List Bool → Bool) (cs : List PanelCall) (s : State) (agrees : Agreement n enough (run cs s)) where
  at_end : (o : Option ℕ) → FirstDecision (final cs s).cells o → OnlyDecision (final cs s).cells o
  at_end None none p v low high h = absurd (holds_none ((final cs s).cells p 4) v (none p low (omega arith)) h)
  at_end (Some w) (q, first) p v low high h = ap Some (agrees.one_decision w v (last_seen (Settled w) cs s (inl (q, first.2))) (last_seen (Settled v) cs s (inl (p, h))))

  pub only_decision : (t : State) (o : Option ℕ) → t ≡ final cs s → FirstDecision t.cells o → OnlyDecision t.cells o
  only_decision t o e = subst (λ (u : State). FirstDecision u.cells o → OnlyDecision u.cells o) (sym e) (at_end o)

-- as many calls by another name
pub sat_at : {s t : State} {before answers : List (Result ℕ Refusal)} {k j : ℕ} (calls : List PanelCall) → k ≡ j → Sat (take k calls) s t before answers → Sat (take j calls) s t before answers
sat_at {s} {t} {before} {answers} calls e h = subst (λ i. Sat (take i calls) s t before answers) e h
