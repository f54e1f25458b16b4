-- The text of what is told.
use Rattle.std.specs.Prelude.{ℕ, cond, List, ◌++◌, Some, None, codes, decimal, Option, ◌==◌}
use Rattle.printed.specs.Faults.{line_and_column, number}
use Rattle.process.specs.declared.memory.Memory.{Memory}
use Rattle.process.specs.declared.memory.Status.{Status}
use Rattle.process.specs.declared.memory.Status.TheVariants.{Down, Up}
use Rattle.process.specs.declared.message.Message.{Message}
use Rattle.process.specs.Names.{kind_name, phase_name}
use Rattle.listing.specs.Lists.{list_text, members_from}
use Rattle.listing.specs.declared.lines.Answer.{Answer}
use Rattle.listing.specs.declared.lines.CellLine.{CellLine}
use Rattle.listing.specs.declared.lines.Note.{Note}
use Rattle.listing.specs.declared.lines.Note.TheVariants.{Unread, CellCount, TrayCount, Fault}
use Rattle.listing.specs.declared.lines.TrayLine.{TrayLine}
use Rattle.tray.specs.declared.kinds.Estimate.{Estimate as Offer}
use Rattle.listing.specs.declared.record.ProcessLine.{ProcessLine}

-- the name of a cell
abbrev pub cell_name : ℕ → List ℕ
cell_name cell =
    cond (cell == 1) (codes "proposal") (cond (cell == 2) (codes "round") (cond (cell == 3) (codes "pair") (codes "decision")))

-- an answer and its count of actions
abbrev pub answer_text : Answer → List ℕ
answer_text a = decimal a.number ++ (codes " " ++ decimal a.actions)

-- what else is said in a line
abbrev pub note_text : Note → List ℕ
note_text (Unread line) = codes "? " ++ decimal line
note_text (CellCount k) = codes "cells " ++ decimal k
note_text (TrayCount k places) = codes "tray " ++ (decimal k ++ (codes " of " ++ decimal places))
note_text (Fault fault) =
    decimal (number fault) ++ (codes " " ++ (decimal (line_and_column fault).0 ++ (codes " " ++ decimal (line_and_column fault).1)))

-- a process's cell, and what it holds
abbrev pub cell_text : CellLine → List ℕ
cell_text l =
    decimal l.process ++ (codes " " ++ (cell_name l.cell ++ (codes " " ++ (decimal l.content.number ++ (codes " " ++ decimal l.content.stamp)))))

-- what a message says
abbrev pub body_text : Message → List ℕ
body_text m =
    kind_name m.kind ++ (codes " " ++ (decimal m.round ++ (codes " " ++ (decimal m.reading ++ (codes " " ++ decimal m.stamp)))))

-- a message at its place
abbrev pub tray_text : TrayLine → List ℕ
tray_text l =
    decimal l.place ++ (codes " " ++ (decimal l.message.sender ++ (codes " " ++ (decimal l.message.addressee ++ (codes " " ++ body_text l.message)))))

-- an estimate as it is kept
abbrev pub offer_text : Offer → List ℕ
offer_text e = decimal e.sender ++ (codes ":" ++ (decimal e.reading ++ (codes ":" ++ decimal e.stamp)))

-- a last message
abbrev pub last_text : Message → List ℕ
last_text m =
    decimal m.addressee
    ++ (codes ":" ++ (kind_name m.kind ++ (codes ":" ++ (decimal m.round ++ (codes ":" ++ (decimal m.reading ++ (codes ":" ++ decimal m.stamp)))))))

-- a noted epoch, or - where there is none
abbrev pub epoch_text : Option ℕ → List ℕ
epoch_text None = codes "-"
epoch_text (Some n) = decimal n

-- the numbers of a record
abbrev pub figures_text : Memory → List ℕ
figures_text m =
    codes "round " ++ (decimal m.round ++ (codes " reading " ++ (decimal m.reading ++ (codes " stamp " ++ (decimal m.stamp
    ++ (codes " heard " ++ (decimal m.heard ++ (codes " epoch " ++ epoch_text m.epoch))))))))

-- the lists of a record
abbrev pub lists_text : Memory → List ℕ
lists_text m =
    codes "kept" ++ (list_text offer_text m.kept ++ (codes " acks" ++ (list_text decimal (members_from 1 m.acknowledgers)
    ++ (codes " last" ++ list_text last_text m.last))))

-- what is told of a process after its number
abbrev pub status_text : Status → List ℕ
status_text Down = codes "down"
status_text (Up m) = phase_name m.phase ++ (codes " " ++ (figures_text m ++ (codes " " ++ lists_text m)))

-- a process
abbrev pub process_text : ProcessLine → List ℕ
process_text l = codes "process " ++ (decimal l.process ++ (codes " " ++ status_text l.status))
