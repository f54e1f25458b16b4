use Rattle.std.proofs.Common.{◌≡◌, ◌+◌, ◌≤◌, [], ◌∷◌, length, get_or, sym, ◌∙◌, arith, rules}
use Rattle.std.specs.List.{IsLastAndRest}
use Rattle.std.proofs.lemmas.Option.{MatchOption-at_none}
use Rattle.std.proofs.lemmas.Result.{err_from_is_err_and}
use Rattle.std.proofs.Math.ListN.{get_or-append}
use Rattle.std.proofs.Math.Seq.{get_or-append_seam}
use Rattle.printed.specs.Fields.{FieldShape, WrongAt}
use Rattle.printed.proofs.Columns.{eight_figures}
use Rattle.printed.proofs.Fields.{front_at, wrong_early, wrong_last, refused}
use Rattle.printed.proofs.part.Part.value.Goals as goal
use Rattle.printed.proofs.part.Part.value.Goals.{in_default-via-in-32+else-n-eq0, in_default-via-in_default+then-last-lt48, in_default-via-in_default+else-last-lt48+else-last-lt58}

pub returns-in_err-n : goal.returns-in_err-n
returns-in_err-n c =
    let p = err_from_is_err_and c.from_residual.result c.from_residual.ensures.1 in
    let xs = c.args.self.bytes.now in
    let front = c.unwrap.result.1.now in
    let i = c.loop-i.i in
    let cut : IsLastAndRest xs c.unwrap.result.0.now front = rw c.unwrap.ensures at c.split_last.ensures.cases in
    let r = refused c.append.result c.fault.result c.in_err-n.field-0.0 (sym c.ok_or.ensures.value ∙ c.in_err-n.was) in
    let b : get_or xs i 0 ≡ get_or front i 0 = rw cut.0 (get_or-append front (c.unwrap.result.0.now ∷ []) 0 i (omega arith)) in
    rw (p.1, p.2, r.1) (
      c.fault.ensures.line,
      (
        _,
        c.fault.ensures.column,
        wrong_early xs i c.loop-i.n c.loop-i.invariant (omega arith) (omega arith) (rw b (MatchOption-at_none _ _ r.0 c.append.ensures)),
      ),
    )

pub overflow_mul-result : goal.overflow_mul-result
overflow_mul-result c = let h = eight_figures c.loop-i.n c.loop-i.i c.loop-i.invariant.1 (search rules) in search rules

pub overflow_add-result : goal.overflow_add-result
overflow_add-result c = let h = eight_figures c.loop-i.n c.loop-i.i c.loop-i.invariant.1 (search rules) in search rules

pub returns-in_default : goal.returns-in_default
returns-in_default c =
    let xs = c.args.self.bytes.now in
    let front = c.unwrap.result.1.now in
    let i = length front in
    let cut : IsLastAndRest xs c.unwrap.result.0.now front = rw c.unwrap.ensures at c.split_last.ensures.cases in
    let b : get_or xs i 0 ≡ c.unwrap.result.0.now = rw cut.0 (get_or-append_seam front c.unwrap.result.0.now [] 0) in
    let read = front_at xs c.loop-i.i i c.loop-i.n (omega arith) c.loop-i.invariant in
    let wrong : (c.loop-i.n ≡ 0 → get_or xs i 0 ≡ 32 → ⊥) → (48 ≤ get_or xs i 0 → get_or xs i 0 ≤ 57 → ⊥) → WrongAt (FieldShape (length xs)) xs (i + 1) =
    wrong_last xs i c.loop-i.n read (omega arith) (omega arith) in (
      c.fault-in_default.ensures.line,
      (
        _,
        c.fault-in_default.ensures.column,
        elim c.in_default.branch [
          | in_default-via-in-32+else-n-eq0 w ↦ wrong (omega arith) (omega arith)
          | in_default-via-in_default+then-last-lt48 w ↦ wrong (omega arith) (omega arith)
          | in_default-via-in_default+else-last-lt48+else-last-lt58 w ↦ wrong (omega arith) (omega arith)
        ],
      ),
    )
