use Rattle.script.proofs.ReadBack.{read_back}
use Rattle.script.proofs.laws.calls_read_back.Goals as goal

pub returns : goal.returns
returns c = read_back
