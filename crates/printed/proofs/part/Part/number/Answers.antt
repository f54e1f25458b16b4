use Rattle.std.proofs.Common.{arith, ◌∙◌}
use Rattle.std.proofs.lemmas.Result.{err_from_is_err_and}
use Rattle.printed.proofs.Fields.{wrong_number, number_cases}
use Rattle.printed.proofs.part.Part.number.Goals as goal

pub returns-in_err-value : goal.returns-in_err-value
returns-in_err-value c =
    let p = err_from_is_err_and c.from_residual.result c.from_residual.ensures.1 in
    let e = c.in_err-value.ensures in
    rw (p.1, p.2) (e.0, (e.1.0, e.1.1, wrong_number c.args.self.bytes.now e.1.0 e.1.2))

pub returns : goal.returns
returns c =
    rw c.ok_or.ensures.value
    (number_cases c.args.self c.in_ok-value.field-0 c.fault.result c.in_ok-value.ensures c.fault.ensures.line (c.fault.ensures.column ∙ omega (arith, c.args.self.width)))
