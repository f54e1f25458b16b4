-- The list of a call, and calls that differ in it alone.
use Rattle.std.specs.Prelude.{Option, List, ℕ}
use Rattle.std.specs.Borrow.{Bor}
use Rattle.agreement.specs.declared.call.Call.{Call}
use Rattle.agreement.specs.declared.call.Call.TheVariants.{Propose, Recover, Look, Deliver, Again, Lose, Crash}

-- a call as a panel makes it: its list stands behind a reference
abbrev pub PanelCall : Type 0
PanelCall = Call (Bor (List (Option ℕ))) ℕ

-- a call with another list
abbrev pub with_list : {L M P : Type 0} → (L → M) → Call L P → Call M P
with_list f (Propose p v cut) = Propose p v cut
with_list f (Recover p cut) = Recover p cut
with_list f (Look p list cut) = Look p (f list) cut
with_list f (Deliver i cut) = Deliver i cut
with_list f (Again p cut) = Again p cut
with_list f (Lose i) = Lose i
with_list f (Crash p) = Crash p
