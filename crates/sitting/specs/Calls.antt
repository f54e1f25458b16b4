-- What a call of a script is judged to be.
use Rattle.agreement.specs.Calls.{State, Verdict, again_of, crash_of, deliver_of, look_of, lose_of, propose_of, recover_of}
use Rattle.agreement.specs.declared.call.Call.TheVariants.{Recover, Propose, Look, Deliver, Again, Lose, Crash}
use Rattle.script.specs.Calls.{LineCall}
use Rattle.script.specs.Rows.{listed}

-- the verdict of a panel on it
abbrev pub judged : LineCall → State → Verdict
judged (Recover p cut) = recover_of p cut
judged (Propose p reading cut) = propose_of p reading cut
judged (Look p row cut) = look_of p (listed row) cut
judged (Deliver place cut) = deliver_of place cut
judged (Again p cut) = again_of p cut
judged (Lose place) = lose_of place
judged (Crash p) = crash_of p
