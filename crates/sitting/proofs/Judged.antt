-- A call of a script is judged as a panel judges it.
use Rattle.std.proofs.Common.{◌≡◌, ℕ, List, Option, sym, refl, ap, ◌∙◌}
use Rattle.agreement.specs.declared.call.Call.{Call}
use Rattle.agreement.specs.declared.call.Call.TheVariants.{Propose, Recover, Look, Deliver, Again, Lose, Crash}
use Rattle.agreement.specs.Calls.{Outcome, State, done, again_of, crash_of, deliver_of, look_of, lose_of, propose_of, recover_of, verdict}
use Rattle.agreement.specs.Lists.{PanelCall, with_list}
use Rattle.script.specs.Calls.{LineCall}
use Rattle.script.specs.Rows.{listed}
use Rattle.sitting.specs.Calls.{judged}

module _ (s : State) where
  -- what a call with a plain list comes to
  outcome : Call (List (Option ℕ)) ℕ → Outcome
  outcome (Propose p v cut) = done (propose_of p v cut) s
  outcome (Recover p cut) = done (recover_of p cut) s
  outcome (Look p list cut) = done (look_of p list cut) s
  outcome (Deliver i cut) = done (deliver_of i cut) s
  outcome (Again p cut) = done (again_of p cut) s
  outcome (Lose i) = done (lose_of i) s
  outcome (Crash p) = done (crash_of p) s

  of_lent : (d : PanelCall) → done (verdict d) s ≡ outcome (with_list (λ x. x.now) d)
  unfolding outcome
  of_lent (Propose p v cut) = refl
  of_lent (Recover p cut) = refl
  of_lent (Look p list cut) = refl
  of_lent (Deliver i cut) = refl
  of_lent (Again p cut) = refl
  of_lent (Lose i) = refl
  of_lent (Crash p) = refl

  of_read : (a : LineCall) → done (judged a) s ≡ outcome (with_list listed a)
  unfolding outcome
  of_read (Propose p v cut) = refl
  of_read (Recover p cut) = refl
  of_read (Look p list cut) = refl
  of_read (Deliver i cut) = refl
  of_read (Again p cut) = refl
  of_read (Lose i) = refl
  of_read (Crash p) = refl

  pub judged_as : (a : LineCall) (d : PanelCall) → with_list (λ x. x.now) d ≡ with_list listed a → done (verdict d) s ≡ done (judged a) s
  judged_as a d same = of_lent d ∙ (ap outcome same ∙ sym (of_read a))
