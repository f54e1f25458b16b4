use Rattle.std.proofs.Common.{◌<◌, length, sym, ◌∙◌, rules}
use Rattle.script.proofs.Figures.{number_folds, number_is}
use borrow.Author.Tests.{tests}
use Rattle.script.proofs.words.read_number.Goals as goal

pub returns : goal.returns
returns c =
    let w = c.args.word.now in
    let h : 0 < length w = search rules in
    number_folds _ _ (λ n x v q k. search (rules, tests)) w c.iter.result c.try_fold.new.self c.try_fold.result c.iter.ensures.rest c.try_fold.ensures.ran
    ∙ sym (number_is w h)
