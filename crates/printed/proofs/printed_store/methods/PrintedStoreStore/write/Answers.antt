use Rattle.std.proofs.Common.{sym, ap, ◌∙◌}
use Rattle.printed.specs.Texts.{Printed, with_line}
use Rattle.store.proofs.Rows.{index_known}
use Rattle.printed.proofs.Kept.{printed_written, cells_written}
use Rattle.printed.proofs.printed_store.methods.PrintedStoreStore.write.Goals as goal

pub invariant_of-self : goal.invariant_of-self
invariant_of-self c =
    let s = c.args.self.now in
    let p : Printed c.put.new.text =
    printed_written s.bytes.now _ _ c.args.process c.args.cell _ c.args.content (s.long, s.shown, s.sound)
    c.in_ok-k.ensures (sym c.if-not-is_fit.ensures) c.print_line.ensures c.put.ensures in
    record { long = p.0; shown = p.1; sound = p.2 }

pub returns-clause-after : goal.returns-clause-after
returns-clause-after c =
    let s = c.args.self.now in
    cells_written s.bytes.now _ _ c.args.process c.args.cell _ c.args.content (s.long, s.shown, s.sound)
    c.in_ok-k.ensures (sym c.if-not-is_fit.ensures) c.print_line.ensures c.put.ensures

pub returns-clause-text : goal.returns-clause-text
returns-clause-text c =
    let is = (index_known c.args.process c.args.cell _ c.in_ok-k.ensures).1 in
    rw (← is) (c.put.ensures ∙ ap (with_line c.args.self.now.bytes.now c.in_ok-k.k) c.print_line.ensures)
