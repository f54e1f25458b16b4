use Rattle.std.proofs.Common.{◌-◌, ◌<◌, false, length, take, drop, ap, ◌∙◌, arith, length-drop, rules}
use Rattle.script.proofs.Splits.{begins_at, none_left, run, split_first}
use Rattle.std.proofs.lemmas.List.{take_rest}
use Rattle.script.proofs.words.next_word.Goals as goal

pub returns-then-is_empty : goal.returns-then-is_empty
returns-then-is_empty c =
    let xs = c.args.line.now in
    record {
      cases = none_left xs _ (take_rest xs c.count_run.result ∙ ap (λ k. drop k xs) c.count_run.ensures.value) (search rules);
      shorter = tt;
    }

pub returns : goal.returns
returns c =
    let xs = c.args.line.now in
    let k = c.count_run.result in
    let ys = take (length xs - k) (drop k xs) in
    let part = take_rest xs k ∙ ap (λ j. drop j xs) c.count_run.ensures.value in
    let filled : 0 < length ys = search rules in
    let more : 0 < run false ys = begins_at xs ys part filled in
    record {
      cases = split_first xs ys c.split_at.result.0.now c.split_at.result.1.now c.count_run-2.result part filled
          c.count_run-2.ensures.value c.split_at.ensures.front c.split_at.ensures.back;
      shorter = omega (arith, more, c.count_run-2.ensures.value, c.split_at.ensures.back_len, ap length (take_rest xs k), length-drop k xs);
    }
