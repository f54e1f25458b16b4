-- The lines of a script.
use Rattle.std.specs.Prelude.{ℕ, List, vec_items}
use Rattle.std.specs.Io.{StopsAt}
use Rattle.script.specs.Words.{feedless}
use Rattle.sitting.specs.declared.reader.Script.{Script}

-- the line read last
abbrev pub text_of : Script → List ℕ
text_of script = feedless (vec_items script.bytes)

-- what was read last is no more than one line: a line feed can only be its last byte
abbrev pub IsOneLine : Script → Type 0
IsOneLine script = StopsAt (vec_items script.bytes) 10
