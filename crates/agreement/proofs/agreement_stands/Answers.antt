use Rattle.agreement.proofs.Ends.{promise}
use Rattle.agreement.proofs.agreement_stands.Goals as goal

pub returns : goal.returns
returns c = promise
