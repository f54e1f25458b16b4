-- Records in range.
use Rattle.std.proofs.Common.{◌≡◌, ℕ, zero, suc, ◌-◌, ◌≤◌, true, List, [], ◌∷◌, get_or, set, None, sym, refl, ap, ◌∙◌, arith}
use Rattle.tray.specs.Items.{element, without}
use Rattle.process.specs.declared.memory.Phase.{Phase}
use Rattle.process.specs.declared.memory.Phase.TheVariants.{Idle, Waiting, Acked, Gathering, Confirming, Done}
use Rattle.process.specs.Phases.{is_active}
use Rattle.process.specs.declared.memory.Status.{Status}
use Rattle.process.specs.declared.memory.Status.TheVariants.{Down}
use Rattle.agreement.proofs.Plans.{at_set}
use Rattle.panel.specs.Records.{Ranged, status_fits}

pub ranged_put : (records : List Status) (p : ℕ) (s : Status) → 1 ≤ p → Ranged records → status_fits p s ≡ true → Ranged (set records (p - 1) s)
ranged_put records p s low h f j =
    let same : p ≡ suc (p - 1) = omega arith in
    at_set (λ l x. status_fits (suc l) x ≡ true) records (p - 1) j s Down (ap (λ q. status_fits q s) (sym same) ∙ f) (h j)

pub ranged_at : (records : List Status) (p : ℕ) (s : Status) → 1 ≤ p → Ranged records → s ≡ get_or records (p - 1) Down → status_fits p s ≡ true
ranged_at records p s low h e =
    let same : p ≡ suc (p - 1) = omega arith in
    ap (λ q. status_fits q s) same ∙ ap (status_fits (suc (p - 1))) e ∙ h (p - 1)

-- in a round
pub active_from : (f : Phase) → (f ≡ Idle → ⊥) → (f ≡ Done → ⊥) → is_active f ≡ true
active_from Idle i d = absurd (i refl)
active_from Waiting i d = refl
active_from Acked i d = refl
active_from Gathering i d = refl
active_from Confirming i d = refl
active_from Done i d = absurd (d refl)

-- what a place that is lacking leaves
pub without_none : {A : Type 0} (xs : List A) (i : ℕ) → element xs i ≡ None → without xs i ≡ xs
without_none xs zero e = refl
without_none [] (suc zero) e = refl
without_none [] (suc (suc i)) e = refl
without_none (x ∷ xs) (suc zero) e = cc
without_none (x ∷ xs) (suc (suc i)) e = ap (λ l. x ∷ l) (without_none xs (suc i) e)
