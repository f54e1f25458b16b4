-- How a call is told.
use Rattle.std.specs.Prelude.{ℕ, List, [], ◌++◌, Some, None, codes, decimal, Option}
use Rattle.agreement.specs.Lists.{PanelCall}
use Rattle.agreement.specs.declared.call.Call.TheVariants.{Propose, Recover, Look, Deliver, Again, Lose, Crash}

-- its cut, after a blank
abbrev pub cut_text : Option ℕ → List ℕ
cut_text None = []
cut_text (Some k) = codes " cut " ++ decimal k

-- its name, its process or place, the reading of a proposal, and its cut
abbrev pub call_text : PanelCall → List ℕ
call_text (Propose p v cut) = codes "propose " ++ decimal p ++ codes " " ++ decimal v ++ cut_text cut
call_text (Recover p cut) = codes "recover " ++ decimal p ++ cut_text cut
call_text (Look p list cut) = codes "look " ++ decimal p ++ cut_text cut
call_text (Deliver i cut) = codes "deliver " ++ decimal i ++ cut_text cut
call_text (Again p cut) = codes "again " ++ decimal p ++ cut_text cut
call_text (Lose i) = codes "lose " ++ decimal i
call_text (Crash p) = codes "crash " ++ decimal p
