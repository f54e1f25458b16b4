-- The commands that the words of a line are.
use Rattle.std.specs.Prelude.{ℕ, cond, ◌&&◌, List, [], ◌∷◌, Some, None, codes, Option}
use Rattle.script.specs.declared.commands.Command.{Command}
use Rattle.script.specs.declared.commands.Command.TheVariants.{Make, Cells, Tray, Process, Store, Save, Check}
use Rattle.script.specs.Calls.{ended, last, lone_number, named_call}
use Rattle.std.specs.Option.{option_map, option_or}
use Rattle.std.specs.Str.{bytes_eq}

-- a command with another thing in place of its path
abbrev pub with_path : {P Q : Type 0} → (P → Q) → Command P → Command Q
with_path f (Make call) = Make call
with_path f Cells = Cells
with_path f Tray = Tray
with_path f (Process p) = Process p
with_path f Store = Store
with_path f (Save p) = Save (f p)
with_path f (Check p) = Check (f p)

-- one word, and nothing more
abbrev pub lone_word : List (List ℕ) → Option (List ℕ)
lone_word [] = None
lone_word (w ∷ ws) = last w ws

-- what is to be looked at, saved or checked, by a name and the words after it
abbrev pub named_view : List ℕ → List (List ℕ) → Option (Command (List ℕ))
named_view w ws =
    cond (bytes_eq w (codes "cells") && ended ws) (Some Cells)
    (cond (bytes_eq w (codes "tray") && ended ws) (Some Tray)
    (cond (bytes_eq w (codes "process")) (option_map Process (lone_number ws))
    (cond (bytes_eq w (codes "store") && ended ws) (Some Store)
    (cond (bytes_eq w (codes "save")) (option_map Save (lone_word ws))
    (cond (bytes_eq w (codes "check")) (option_map Check (lone_word ws)) None)))))

-- a call, or something else
abbrev pub command : List (List ℕ) → Option (Command (List ℕ))
command [] = None
command (w ∷ ws) = option_or (option_map Make (named_call w ws)) (named_view w ws)
