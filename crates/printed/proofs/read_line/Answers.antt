use Rattle.std.proofs.Common.{refl, arith}
use Rattle.std.proofs.lemmas.Result.{err_from_is_err_and}
use Rattle.printed.proofs.LineParts.{first_fault, blank_fault, rest_fault, line_feed_fault, line_read}
use Rattle.printed.proofs.read_line.Goals as goal

pub returns-in_err-first : goal.returns-in_err-first
returns-in_err-first c =
    let p = err_from_is_err_and c.from_residual.result c.from_residual.ensures.1 in
    let s = c.new.ensures in
    rw (p.1, p.2) (first_fault c.args.bytes.now c.args.at c.new.result c.in_err-first.field-0.0 (omega arith) s.bytes s.line s.start c.in_err-first.ensures)

pub returns-then-bytes-ne32 : goal.returns-then-bytes-ne32
returns-then-bytes-ne32 c =
    (refl, blank_fault c.args.bytes.now c.in_ok-first.first (omega arith) (rw c.new.ensures.bytes at c.in_ok-first.ensures) c.if-bytes-ne32.true)

pub returns-in_err-content : goal.returns-in_err-content
returns-in_err-content c =
    let p = err_from_is_err_and c.from_residual-in_err-content.result c.from_residual-in_err-content.ensures.1 in
    let s = c.new-2.ensures in
    rw (p.1, p.2)
    (rest_fault c.args.bytes.now c.in_ok-first.first (omega arith) (rw c.new.ensures.bytes at c.in_ok-first.ensures) c.if-bytes-ne32.false
    c.args.at c.new-2.result c.in_err-content.field-0.0 s.bytes s.line s.start c.in_err-content.ensures)

pub returns-then-bytes-ne10 : goal.returns-then-bytes-ne10
returns-then-bytes-ne10 c = (
  refl,
  line_feed_fault c.args.bytes.now c.in_ok-first.first (omega arith) (rw c.new.ensures.bytes at c.in_ok-first.ensures) c.if-bytes-ne32.false
      c.in_ok-content.content (rw c.new-2.ensures.bytes at c.in_ok-content.ensures) c.if-bytes-ne10.true,
)

pub returns : goal.returns
returns c =
    line_read c.args.bytes.now c.in_ok-first.first (omega arith) (rw c.new.ensures.bytes at c.in_ok-first.ensures) c.if-bytes-ne32.false
    c.in_ok-content.content (rw c.new-2.ensures.bytes at c.in_ok-content.ensures) c.if-bytes-ne10.false
