use Rattle.std.proofs.Common.{refl, ◌∙◌, arith}
use Rattle.process.specs.Ranges.{act_fits}
use Rattle.panel.proofs.Performs.{every_at, performed_more}
use Rattle.panel.proofs.panel.perform.Goals as goal

pub act_one-requires : goal.act_one-requires
act_one-requires g c = every_at (act_fits 9 c.args.p.number) c.args.actions.now c.loop-action.action-index _ (omega arith) c.requires

pub loop-action-preserved : goal.loop-action-preserved
loop-action-preserved g c =
    let (so, room) = c.loop-action.invariant in
    let e = c.act_one.ensures in (
      performed_more _ _ _ _ _ _ c.args.actions.now c.loop-action.action-index _ _ c.loop-action-test.true refl room so e.world,
      e.room ∙ room,
    )
