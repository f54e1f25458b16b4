use Rattle.std.proofs.Common.{sym}
use Rattle.script.proofs.Entries.{read_more}
use Rattle.script.specs.Words.{words}
use Rattle.script.proofs.row.read_row.Goals as goal

pub loop-word-preserved : goal.loop-word-preserved
loop-word-preserved g c =
    read_more g.E.Entry.free g.E.Entry.reads c.loop-word.row c.push.new.self (words c.args.line.now) (words c.loop-word.rest.now)
    c.loop-word.invariant c.in-Some.word.now (words c.in-Some.after.now) c.in-Some-read.entry
    c.in-Some.ensures.cases (sym c.in-Some-read.ensures) (c.push.ensures.items, c.push.ensures.count)
