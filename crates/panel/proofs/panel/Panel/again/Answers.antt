use Rattle.std.proofs.Common.{arith}
use Rattle.panel.proofs.Performs.{lawful_fits}
use Rattle.panel.proofs.panel.Panel.again.Goals as goal

pub finish-requires : goal.finish-requires
finish-requires g c =
    let p = c.in_ok-id.id in
    lawful_fits (c.again_turn-turn.ensures.lawful 9 p.number (omega arith) (omega arith) p.low p.high) (omega arith) c.in_ok-memory.ensures.fits
