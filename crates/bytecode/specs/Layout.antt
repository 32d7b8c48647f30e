-- Document 01, "Instruction layout": little-endian u32 fields, read and written, and an instruction's length. Assumes nothing.
use Rattle.std.specs.Prelude.{ℕ, ◌+◌, ◌*◌, ◌/◌, ◌%◌, ◌<◌, List, [], ◌∷◌, ◌++◌, get_or, Result, Ok, Err}
use Rattle.refusal.specs.declared.Refusal.{Refusal}
use Rattle.refusal.specs.declared.Refusal.TheVariants.{UnknownOpcode, NotCarried}
use Rattle.bytecode.specs.declared.opcode.Shape.{Shape}
use Rattle.bytecode.specs.declared.opcode.Shape.TheVariants as S

-- every place holds a byte, as of a slice of u8
abbrev pub AreBytes : List ℕ → Type 0
AreBytes s = (at : ℕ) → get_or s at 0 < 256

-- ---- fields read: a byte past the end reads 0

-- the little-endian u32 at a place of the bytes
unfoldable pub word_at : List ℕ → ℕ → ℕ
word_at s at = get_or s at 0 + 256 * get_or s (at + 1) 0 + 65536 * get_or s (at + 2) 0 + 16777216 * get_or s (at + 3) 0

-- n such fields in a row
abbrev pub words : List ℕ → ℕ → ℕ → List ℕ
words s at ℕ.zero = []
words s at (ℕ.suc n) = word_at s at ∷ words s (at + 4) n

-- ---- fields written

-- a number's n low bytes, lowest first
abbrev pub le : ℕ → ℕ → List ℕ
le ℕ.zero x = []
le (ℕ.suc n) x = x % 256 ∷ le n (x / 256)

-- u32 fields in a row
abbrev pub les : List ℕ → List ℕ
les [] = []
les (x ∷ xs) = le 4 x ++ les xs

-- ---- an instruction's length

-- of a hint with d dimensions; its input count stands after them, its output count after that
abbrev pub hint_size : List ℕ → ℕ → Result ℕ Refusal
hint_size s d = Ok (17 + 4 * (d + word_at s (9 + 4 * d) + word_at s (13 + 4 * d)))

-- the length in bytes that the counts of the instruction give it. A count that cannot be read reads what is there: the
-- length passes the end all the same, since every field before the registers is in it
unfoldable pub size_as : Shape → List ℕ → Result ℕ Refusal
size_as S.Unknown s = Err UnknownOpcode
size_as S.NotCarried s = Err NotCarried
size_as (S.Fixed d n p) s = Ok (1 + 4 * (d + n + p))
size_as S.Shift s = Ok 11
size_as S.Many s = Ok (9 + 4 * word_at s 5)
size_as S.Hint s = hint_size s (word_at s 5)
