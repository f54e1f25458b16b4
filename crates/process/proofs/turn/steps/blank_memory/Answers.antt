use Rattle.process.proofs.Slots.{blank_of}
use Rattle.process.proofs.turn.steps.blank_memory.Goals as goal

pub returns : goal.returns
returns c = blank_of c.default.result c.default.ensures
