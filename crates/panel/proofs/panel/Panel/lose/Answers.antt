use Rattle.std.proofs.Common.{sym, ◌∙◌, rules}
use Rattle.tray.specs.Items.{items}
use Rattle.panel.proofs.Kept.{without_none}
use Rattle.panel.proofs.panel.Panel.lose.Goals as goal

pub returns-in_err-ok_or : goal.returns-in_err-ok_or
returns-in_err-ok_or g c =
    let e = c.take_out.ensures in
    let same = e.list ∙ without_none (items c.args.tray.now) c.args.place (sym e.value ∙ c.in_err-ok_or.ensures.ok_part) in
    search rules
