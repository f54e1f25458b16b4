-- Every call can be written down: the words of its line read back as that call.
use Rattle.std.specs.Prelude.{◌≡◌, ℕ, ◌^◌, ◌<◌, List, [], ◌∷◌, ◌++◌, map, Some, None, codes, decimal, Option}
use Rattle.agreement.specs.declared.call.Call.TheVariants.{Recover, Propose, Look, Deliver, Again, Lose, Crash}
use Rattle.script.specs.declared.commands.Command.TheVariants.{Make}
use Rattle.script.specs.Calls.{LineCall}
use Rattle.script.specs.Commands.{command}
use Rattle.script.specs.Rows.{row_of}
use Rattle.script.specs.Words.{words}

-- words, with a blank before each
abbrev pub spaced : List (List ℕ) → List ℕ
spaced [] = []
spaced (w ∷ ws) = 32 ∷ (w ++ spaced ws)

-- a cut, as it is written
abbrev pub cut_words : Option ℕ → List (List ℕ)
cut_words None = []
cut_words (Some k) = codes "cut" ∷ decimal k ∷ []

-- an entry of a list, as it is written
abbrev pub epoch_word : Option ℕ → List ℕ
epoch_word None = codes "-"
epoch_word (Some e) = decimal e

-- a number that can be handed over, if there is one
abbrev pub Small : Option ℕ → Type 0
Small None = Unit {0}
Small (Some n) = n < 2 ^ 32

-- so can all of a list
abbrev pub AllSmall : List (Option ℕ) → Type 0
AllSmall [] = Unit {0}
AllSmall (x ∷ xs) = Small x × AllSmall xs

-- a line of a name and further words is read as this call
abbrev pub ReadAs : List ℕ → List (List ℕ) → LineCall → Type 0
ReadAs name ws call = command (words (name ++ spaced ws)) ≡ Some (Make call)

-- whatever the numbers, the list and the cut are
pub record ReadBack : Type 0 where
  pub recover : (p : ℕ) (k : Option ℕ) → p < 2 ^ 32 → Small k → ReadAs (codes "recover") (decimal p ∷ cut_words k) (Recover p k)
  pub propose : (p v : ℕ) (k : Option ℕ) → p < 2 ^ 32 → v < 2 ^ 32 → Small k →
      ReadAs (codes "propose") (decimal p ∷ decimal v ∷ cut_words k) (Propose p v k)
  pub look : (p : ℕ) (xs : List (Option ℕ)) (k : Option ℕ) → p < 2 ^ 32 → AllSmall xs → Small k →
      ReadAs (codes "look") (decimal p ∷ (map epoch_word xs ++ cut_words k)) (Look p (row_of None xs) k)
  pub deliver : (m : ℕ) (k : Option ℕ) → m < 2 ^ 32 → Small k → ReadAs (codes "deliver") (decimal m ∷ cut_words k) (Deliver m k)
  pub again : (p : ℕ) (k : Option ℕ) → p < 2 ^ 32 → Small k → ReadAs (codes "again") (decimal p ∷ cut_words k) (Again p k)
  pub lose : (m : ℕ) → m < 2 ^ 32 → ReadAs (codes "lose") (decimal m ∷ []) (Lose m)
  pub crash : (p : ℕ) → p < 2 ^ 32 → ReadAs (codes "crash") (decimal p ∷ []) (Crash p)
