-- Working definitions: what contracts of inner functions cite. No reader of document 01 needs them. Assumes nothing.
use Rattle.std.specs.Prelude.{ℕ, ◌+◌, ◌*◌, List, Bool, ◌&&◌, get_or, eqb, Result, Ok, Err}
use Rattle.refusal.specs.Number.{number_of}
use Rattle.refusal.specs.declared.Refusal.{Refusal}
use Rattle.shift.specs.Variant.{bad_variant}
use Rattle.bytecode.specs.Layout.{word_at}
use Rattle.bytecode.specs.Instruction.{inst}
use Rattle.bytecode.specs.Parse.{Parsed, whole, refused}
use Rattle.bytecode.specs.declared.opcode.Shape.{Shape}
use Rattle.bytecode.specs.declared.opcode.Shape.TheVariants as S
use Rattle.bytecode.specs.declared.decoder.Decoded.{Decoded}
use Rattle.bytecode.specs.declared.layout.HintCounts.{HintCounts}
use Rattle.bytecode.specs.declared.layout.Places.{Places}
use Rattle.bytecode.specs.declared.decoder.Fields.{Fields}
use Rattle.bytecode.specs.declared.instruction.Instruction.{Instruction}
use Rattle.bytecode.specs.declared.instruction.Instruction.TheVariants as I

abbrev pub Carried : Shape → Type 0
Carried S.Unknown = ⊥
Carried S.NotCarried = ⊥
Carried (S.Fixed d n p) = Unit
Carried S.Shift = Unit
Carried S.Many = Unit
Carried S.Hint = Unit

-- a hint's three counts, read where they lie
abbrev pub counts_of : List ℕ → HintCounts
counts_of s = record {
  dimensions = word_at s 5;
  inputs = word_at s (9 + 4 * word_at s 5);
  outputs = word_at s (13 + 4 * word_at s 5);
}

-- the hint case with its counts
abbrev pub hint_of : List ℕ → Instruction
hint_of s = I.Hint (word_at s 1) (counts_of s).dimensions (counts_of s).inputs (counts_of s).outputs

-- the first five fields
abbrev pub fields_of : List ℕ → Fields
fields_of s = record { a = word_at s 1; b = word_at s 5; c = word_at s 9; d = word_at s 13; e = word_at s 17 }

-- the bytes of a shift with a variant over 7
abbrev pub variant_over : ℕ → List ℕ → Bool
variant_over op s = eqb op 0x10 && bad_variant (get_or s 9 0)

-- what the decoder finds in the bytes, each of its refusals being at the opcode byte
unfoldable pub found : List ℕ → Result Decoded Refusal → Parsed
found s (Ok d) = whole (inst s d.instruction) d.length
found s (Err r) = refused (number_of r) 0

-- a hint's length by its counts
abbrev pub size_by : HintCounts → ℕ
size_by c = 17 + 4 * (c.dimensions + c.inputs + c.outputs)

-- where the registers lie
abbrev pub places_at : ℕ → ℕ → ℕ → ℕ → Places
places_at da d sa s = record { to = da; dests = d; from = sa; sources = s }

abbrev pub places_by : HintCounts → Places
places_by c = places_at (17 + 4 * (c.dimensions + c.inputs)) c.outputs (17 + 4 * c.dimensions) c.inputs

unfoldable pub places_as : Shape → List ℕ → Places
places_as S.Unknown s = places_at 0 0 0 0
places_as S.NotCarried s = places_at 0 0 0 0
places_as (S.Fixed d n p) s = places_at 1 d (1 + 4 * d) n
places_as S.Shift s = places_at 1 1 5 1
places_as S.Many s = places_at 1 1 9 (word_at s 5)
places_as S.Hint s = places_by (counts_of s)
