use Rattle.std.proofs.Common.{sym, rules}
use Rattle.store.proofs.Rows.{set_written, set_sound}
use Rattle.store.proofs.table.methods.TableStore.write.Goals as goal

pub invariant_of-self : goal.invariant_of-self
invariant_of-self c =
    let a = c.args in
    record { sound = set_sound a.self.now.row a.process a.cell _ a.content (search rules) c.in_ok-k.ensures (sym c.if-not-is_fit.ensures) a.self.now.sound }

pub returns-clause-after : goal.returns-clause-after
returns-clause-after c =
    let a = c.args in
    set_written a.self.now.row a.process a.cell _ a.content (search rules) c.in_ok-k.ensures (sym c.if-not-is_fit.ensures)
