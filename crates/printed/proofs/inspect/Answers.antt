use Rattle.std.proofs.Common.{◌≡◌, ℕ, ◌+◌, ◌%◌, ap, arith, below_more}
use Rattle.std.proofs.lemmas.Result.{err_from_is_err_and}
use Rattle.printed.proofs.Slots.{slot_read}
use Rattle.printed.proofs.inspect.Goals as goal

pub returns-in_err-check_line : goal.returns-in_err-check_line
returns-in_err-check_line c =
    let p = err_from_is_err_and c.from_residual.result c.from_residual.ensures.1 in
    let k = c.loop-k.k in
    let at = slot_read c.args.bytes.now c.as_chunks.result.0.now k c.as_chunks.ensures.front c.if-bytes-ne576.false (omega (arith, c.as_chunks.ensures.front_len)) in
    let cell : c.cell_at-cell.result.1 ≡ k % 4 + 1 = ap (λ (q : ℕ × ℕ). q.1) c.cell_at-cell.ensures in
    rw (p.1, p.2) (c.if-bytes-ne576.false, (k, omega (arith, c.as_chunks.ensures.front_len), c.loop-k.invariant, rw (at, cell) at c.in_err-check_line.ensures))

pub loop-k-preserved : goal.loop-k-preserved
loop-k-preserved c =
    let k = c.loop-k.k in
    let at = slot_read c.args.bytes.now c.as_chunks.result.0.now k c.as_chunks.ensures.front c.if-bytes-ne576.false (omega (arith, c.as_chunks.ensures.front_len)) in
    let cell : c.cell_at-cell.result.1 ≡ k % 4 + 1 = ap (λ (q : ℕ × ℕ). q.1) c.cell_at-cell.ensures in
    below_more _ k c.loop-k.invariant (rw (at, cell) at c.in_ok-check_line.ensures)
