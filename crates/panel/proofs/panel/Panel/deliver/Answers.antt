use Rattle.std.proofs.Common.{◌≡◌, true, is_some, sym, ap, ◌∙◌}
use Rattle.process.specs.Messages.{well_formed}
use Rattle.panel.proofs.panel.Panel.deliver.Goals as goal

pub hand_over-requires : goal.hand_over-requires
hand_over-requires g c =
    let n = g.R.QuorumRule.processes c.args.self.now.rule in
    let m = c.in_ok-letter.letter.message in
    let is = c.in_ok-letter.ensures.ok_part in
    let kept : m ≡ c.in_ok-message.message = rw is at c.new.ensures.kept in
    let formed : well_formed n m ≡ true = ap (well_formed n) kept ∙ sym c.new.ensures.test ∙ ap is_some is in
    (formed, rw c.addressee.ensures at c.in_ok-memory.ensures.fits)
