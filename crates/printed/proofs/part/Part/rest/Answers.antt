use Rattle.std.proofs.lemmas.Result.{err_from_is_err_and}
use Rattle.printed.proofs.LineParts.{wrong_stamp}
use Rattle.printed.proofs.part.Part.rest.Goals as goal

pub returns-in_err-stamp-in-Some : goal.returns-in_err-stamp-in-Some
returns-in_err-stamp-in-Some c =
    let p = err_from_is_err_and c.from_residual.result c.from_residual.ensures.1 in
    let e = c.in_err-stamp-in-Some.ensures in
    rw (p.1, p.2, c.in-Some.is) (e.0, (e.1.0, e.1.1, wrong_stamp c.args.self.bytes.now c.in-Some.number e.1.0 c.requires e.1.2))
