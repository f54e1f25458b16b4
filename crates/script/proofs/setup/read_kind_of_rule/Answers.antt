use Rattle.std.proofs.Common.{◌≡◌, codes, arith, rules}
use Rattle.std.proofs.lemmas.Slice.Eq.{text_from_reads}
use Rattle.script.proofs.setup.read_kind_of_rule.Goals as goal

pub returns-in-majority : goal.returns-in-majority
returns-in-majority c =
    let w = c.in_ok-word.word.now in
    let e : w ≡ codes "majority" =
    text_from_reads w (codes "majority") (omega arith) (omega arith, (omega arith, (omega arith, (omega arith, (omega arith, (omega arith, (omega arith, (omega arith, tt)))))))) in
    search (rules, e)
