-- Document 01, "Instruction layout": the opcodes and how the fields after each are laid out. Assumes nothing.
use Rattle.std.specs.Prelude.{ℕ, List, [], ◌∷◌, cond, eqb}
use Rattle.bytecode.specs.declared.opcode.Shape.{Shape}
use Rattle.bytecode.specs.declared.opcode.Shape.TheVariants.{Unknown, NotCarried, Fixed, Shift, Many, Hint}

-- a line of the opcode table
pub record Line : Type 0 where
  pub byte : ℕ
  pub shape : Shape

abbrev pub line : ℕ → Shape → Line
line b s = record { byte = b; shape = s }

-- the opcodes of the source, by byte: everything else about an opcode's layout follows from its line here.
-- `Fixed d s n` has d destinations, s sources and n path specs
abbrev pub table : List Line
table =
    line 0x01 (Fixed 1 2 0) ∷  -- Band
    line 0x02 (Fixed 1 2 0) ∷  -- Bor
    line 0x03 (Fixed 1 2 0) ∷  -- Bxor
    line 0x05 (Fixed 1 3 0) ∷  -- Select
    line 0x06 Many ∷  -- BxorMulti
    line 0x07 (Fixed 1 3 0) ∷  -- Fax
    line 0x10 Shift ∷  -- Shift
    line 0x21 (Fixed 2 3 0) ∷  -- IaddCinCout
    line 0x22 (Fixed 1 2 0) ∷  -- IaddCarry
    line 0x23 (Fixed 2 3 0) ∷  -- IsubBinBout
    line 0x30 (Fixed 2 2 0) ∷  -- Imul
    line 0x31 NotCarried ∷  -- Bmul
    line 0x40 (Fixed 2 3 0) ∷  -- Iadd32CinCout
    line 0x46 (Fixed 2 2 0) ∷  -- Iadd32Cout
    line 0x60 (Fixed 0 2 1) ∷  -- AssertEq
    line 0x61 (Fixed 0 3 1) ∷  -- AssertEqCond
    line 0x62 (Fixed 0 1 1) ∷  -- AssertZero
    line 0x63 (Fixed 0 1 1) ∷  -- AssertNonZero
    line 0x64 (Fixed 0 1 1) ∷  -- AssertFalse
    line 0x65 (Fixed 0 1 1) ∷  -- AssertTrue
    line 0x80 Hint ∷  -- Hint
    []

-- the shape that the first line for a byte gives, Unknown where there is none
abbrev pub lookup : List Line → ℕ → Shape
lookup [] op = Unknown
lookup (l ∷ ls) op = cond (eqb op l.byte) l.shape (lookup ls op)

abbrev pub shape_of : ℕ → Shape
shape_of op = lookup table op
