-- Phases in which a process is in a round.
use Rattle.std.proofs.Common.{◌≡◌, true, arith}
use Rattle.process.specs.declared.memory.Phase.{Phase}
use Rattle.process.specs.Phases.{is_active, is_confirming, is_gathering, is_waiting}

pub gathering_active : (f : Phase) → is_gathering f ≡ true → is_active f ≡ true
gathering_active f i = grind arith

pub confirming_active : (f : Phase) → is_confirming f ≡ true → is_active f ≡ true
confirming_active f i = grind arith

pub waiting_active : (f : Phase) → is_waiting f ≡ true → is_active f ≡ true
waiting_active f i = grind arith
