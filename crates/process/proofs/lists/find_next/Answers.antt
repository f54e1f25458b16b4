use Rattle.std.proofs.Common.{◌+◌, ◌<◌, max, ltb, length, sym, ap, ◌∙◌, subst, arith, rules}
use Rattle.tray.specs.Items.{items, places}
use Rattle.process.specs.Looks.{Least, may_enter}
use Rattle.process.proofs.Looks.{candidates_put, candidates_skip, least_next, none_next}
use Rattle.process.proofs.lists.find_next.Goals as goal
use Rattle.process.proofs.lists.find_next.Goals.{then-is_next, else-is_next, then-memory-ge-MAX_ROUND-via-then-memory-ge-MAX_ROUND, then-memory-ge-MAX_ROUND-via-else-memory-ge-MAX_ROUND+then-memory-gt-MAX_ROUND}

pub returns-then-memory-ge-MAX_ROUND-clause-value : goal.returns-then-memory-ge-MAX_ROUND-clause-value
returns-then-memory-ge-MAX_ROUND-clause-value g c =
    let m = c.args.memory.now in
    let far : 999999 < max (m.round + 1) m.heard = search rules in
    none_next (g.R.QuorumRule.processes c.args.rule.now) c.args.list.now m (g.met.R.QuorumRule.sized c.args.rule.now).0 far

pub loop-number-preserved : goal.loop-number-preserved
loop-number-preserved g c =
    let test = may_enter (g.R.QuorumRule.processes c.args.rule.now) c.args.list.now c.args.memory.now in
    let start = c.max-start.result in
    let q = c.loop-number.number in
    let before = items c.loop-number.tray in
    let (so, room) = c.loop-number.invariant in
    let low = c.loop-number.auto.number in
    let nine = (g.met.R.QuorumRule.sized c.args.rule.now).1 in
    elim c.if-is_next.branch [
      | then-is_next w ↦ (
        ap items w.tray-is
            ∙ candidates_put test start q before (items w.put.new.self) _ 9 low so (sym c.is_next.ensures ∙ w.if-is_next.true) (omega (arith, c.size.ensures))
            (w.put.ensures.test ∙ ap (ltb (length before)) room) w.put.ensures.list,
        ap places w.tray-is ∙ (w.put.ensures.room ∙ room),
      )
      | else-is_next w ↦ (
        ap items w.tray-is ∙ candidates_skip test start q before low so (sym c.is_next.ensures ∙ w.if-is_next.false),
        ap places w.tray-is ∙ room,
      )
    ]

pub returns-clause-value : goal.returns-clause-value
returns-clause-value g c = search rules

pub returns-clause-least : goal.returns-clause-least
returns-clause-least g c =
    let n = g.R.QuorumRule.processes c.args.rule.now in
    let m = c.args.memory.now in
    subst (Least (may_enter n c.args.list.now m)) (sym (returns-clause-value g c)) (least_next n c.args.list.now m (g.met.R.QuorumRule.sized c.args.rule.now).0)
