use Rattle.std.proofs.Common.{Some, sym}
use Rattle.std.proofs.lemmas.Bool.{and_from}
use Rattle.printed.proofs.Kept.{shows_from_line}
use Rattle.printed.proofs.check_line.Goals as goal

pub returns : goal.returns
returns c =
    let r = rw c.in-Some.is at c.in_ok-content.ensures in
    shows_from_line c.args.cell c.args.bytes.now (Some c.in-Some.content) r.0 r.1
    (and_from _ _ (sym c.if-not-is_number_fit.ensures) (sym c.if-not-is_stamp_fit.ensures))
