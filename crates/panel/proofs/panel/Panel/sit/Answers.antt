use Rattle.std.proofs.Common.{◌≡◌, ◌<◌, length, take, ◌∙◌, subst, arith}
use Rattle.std.proofs.lemmas.List.{get_or-take, length-set, length-take-le}
use Rattle.panel.specs.Panels.{outcome_in, state_in}
use Rattle.panel.specs.Sittings.{Sat}
use Rattle.panel.proofs.Sittings.{answers_more, final_more, rest_more, sat}
use Rattle.panel.proofs.panel.Panel.sit.Goals as goal

pub loop-i-preserved : goal.loop-i-preserved
loop-i-preserved g c =
    let a = c.args in
    let l = c.loop-i in
    let start = state_in g.R.QuorumRule g.S.Store a.self.now a.tray.now in
    let here = state_in g.R.QuorumRule g.S.Store l.self l.tray in
    let o = outcome_in g.R.QuorumRule g.S.Store c.call.result c.call.new.self c.call.new.tray in
    let m = c.min-count.result in
    let both = c.min-count.ensures in
    let few : l.i < m = omega (arith, length-take-le m a.calls.now (omega (arith, both)), c.loop-i-test.true) in
    let more : l.i < length a.calls.now = omega (arith, both) in
    let (so, long, told, rest) = l.invariant in
    let room : l.i < length l.answers = omega (arith, both) in
    let is = get_or-take m a.calls.now l.i _ few in (
      final_more a.calls.now l.i start here _ _ o more is so c.call.ensures.value,
      length-set l.answers l.i c.call.result ∙ long,
      answers_more a.calls.now l.i start here _ _ o more is so c.call.ensures.value l.answers room told,
      rest_more l.answers a.answers.now l.i c.call.result room long rest,
    )

pub returns : goal.returns
returns g c =
    let a = c.args in
    let l = c.loop-i in
    let start = state_in g.R.QuorumRule g.S.Store a.self.now a.tray.now in
    let m = c.min-count.result in
    let all : l.i ≡ m = omega (arith, length-take-le m a.calls.now (omega (arith, c.min-count.ensures)), c.loop-i-test.false) in
    let (so, long, told, rest) = l.invariant in
    let made = sat {s = start} (g.met.R.QuorumRule.shares a.self.now.rule) a.calls.now l.i a.answers.now l.answers (omega (arith, c.min-count.ensures)) so told rest in
    record {
      count = c.min-count.ensures;
      sat = subst (λ j. Sat (take j a.calls.now) start (state_in g.R.QuorumRule g.S.Store l.self l.tray) a.answers.now l.answers) all made;
    }
