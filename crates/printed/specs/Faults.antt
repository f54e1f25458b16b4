-- What is wrong with a text, and what a caller is told of it.
use Rattle.std.specs.Prelude.{◌≡◌, ℕ, ◌+◌, ◌%◌, ◌<◌, true, false, List, length, Some}
use Rattle.store.specs.declared.content.Content.{Content}
use Rattle.store.specs.Ranges.{fits_number, fits_stamp}
use Rattle.printed.specs.declared.part.Part.{Part}
use Rattle.printed.specs.declared.fault.FieldFault.{FieldFault}
use Rattle.printed.specs.declared.fault.LineFault.{LineFault}
use Rattle.printed.specs.declared.fault.LineFault.TheVariants.{Field, Blank, LineFeed, Number, Stamp}
use Rattle.printed.specs.declared.fault.StoreFault.{StoreFault}
use Rattle.printed.specs.declared.fault.StoreFault.TheVariants.{Length, Line}
use Rattle.printed.specs.Fields.{WrongAt}
use Rattle.printed.specs.Lines.{line, Roomy, LineShape}
use Rattle.printed.specs.Texts.{slot, Shows}

-- a text that is no printed store is refused with this number
abbrev pub number : StoreFault → ℕ
number f = 16

-- the line of a fault
abbrev pub fault_line : LineFault → ℕ
fault_line (Field f) = f.line
fault_line (Blank l) = l
fault_line (LineFeed l) = l
fault_line (Number l) = l
fault_line (Stamp l) = l

-- the column of a fault in its line; a number out of range is named by its first column
abbrev pub fault_column : LineFault → ℕ
fault_column (Field f) = f.column
fault_column (Blank l) = 9
fault_column (LineFeed l) = 16
fault_column (Number l) = 1
fault_column (Stamp l) = 10

-- line and column, 0 and 0 for a wrong length
abbrev pub line_and_column : StoreFault → ℕ × ℕ
line_and_column Length = (0, 0)
line_and_column (Line f) = (fault_line f, fault_column f)

-- a part of a line has not the shape P, from the fault's column on
abbrev pub FieldWrong : (List ℕ → Type 0) → Part → FieldFault → Type 0
FieldWrong P part f = (f.line ≡ part.line) × ((c : ℕ) × (f.column ≡ part.start + c) × WrongAt P part.bytes.now c)

-- line l has not the shape of a line, from the fault's column on
abbrev pub ShapeWrong : List ℕ → ℕ → LineFault → Type 0
ShapeWrong xs l (Field f) = (f.line ≡ l) × WrongAt LineShape xs f.column
ShapeWrong xs l (Blank m) = (m ≡ l) × WrongAt LineShape xs 9
ShapeWrong xs l (LineFeed m) = (m ≡ l) × WrongAt LineShape xs 16
ShapeWrong xs l (Number m) = ⊥
ShapeWrong xs l (Stamp m) = ⊥

-- line l is wrong: its shape, or else its number, or else its stamp
abbrev pub LineWrong : ℕ → List ℕ → ℕ → LineFault → Type 0
LineWrong cell xs l (Field f) = ShapeWrong xs l (Field f)
LineWrong cell xs l (Blank m) = ShapeWrong xs l (Blank m)
LineWrong cell xs l (LineFeed m) = ShapeWrong xs l (LineFeed m)
LineWrong cell xs l (Number m) =
    (m ≡ l) × ((c : Content) × Roomy (Some c) × (xs ≡ line (Some c)) × (fits_number cell c.number ≡ false))
LineWrong cell xs l (Stamp m) =
    (m ≡ l) × ((c : Content) × Roomy (Some c) × (xs ≡ line (Some c)) × (fits_number cell c.number ≡ true) × (fits_stamp cell c.stamp ≡ false))

-- a text is wrong: its length, or else its first wrong line
abbrev pub TextWrong : List ℕ → StoreFault → Type 0
TextWrong xs Length = length xs ≡ 576 → ⊥
TextWrong xs (Line f) =
    (length xs ≡ 576)
    × ((k : ℕ) × (k < 36) × ((j : ℕ) → j < k → Shows (j % 4 + 1) (slot j xs)) × LineWrong (k % 4 + 1) (slot k xs) (k + 1) f)
