use Rattle.std.proofs.Common.{ap, ◌∙◌}
use Rattle.agreement.specs.Lists.{with_list}
use Rattle.script.specs.Rows.{listed}
use Rattle.sitting.proofs.Judged.{judged_as}
use Rattle.sitting.proofs.play.make.Goals as goal

pub returns : goal.returns
returns g c = c.call.ensures.value ∙ judged_as _ _ _ (c.lent.ensures ∙ ap (with_list listed) c.widened.ensures)
