-- The instruction that every other definition is about, and what each case of the code's enum says. Assumes nothing.
use Rattle.std.specs.Prelude.{ℕ, ◌+◌, ◌*◌, List, [], ◌∷◌, Bool, ◌&&◌, get_or, eqb}
use Rattle.shift.specs.Variant.{bad_variant}
use Rattle.bytecode.specs.Layout.{words}
use Rattle.bytecode.specs.declared.instruction.Instruction.{Instruction}
use Rattle.bytecode.specs.declared.instruction.Instruction.TheVariants as I

-- an opcode, its registers, and the numbers, which are what is no register: an assertion's path spec; a shift's variant and
-- amount; a hint's id and after it the dimensions
pub record Inst : Type 0 where
  pub op : ℕ
  pub dests : List ℕ
  pub sources : List ℕ
  pub numbers : List ℕ

abbrev pub make : ℕ → List ℕ → List ℕ → List ℕ → Inst
make o d s n = record { op = o; dests = d; sources = s; numbers = n }

-- a shift whose variant is over 7
abbrev pub shift_bad_variant : Inst → Bool
shift_bad_variant i = eqb i.op 0x10 && bad_variant (get_or i.numbers 0 0)

-- what each case of the enum says, `s` being the bytes that it was decoded from: a BxorMulti and a hint carry counts, and
-- their lists stay in the bytes
unfoldable pub inst : List ℕ → Instruction → Inst
inst s (I.Band d a b) = make 0x01 (d ∷ []) (a ∷ b ∷ []) []
inst s (I.Bor d a b) = make 0x02 (d ∷ []) (a ∷ b ∷ []) []
inst s (I.Bxor d a b) = make 0x03 (d ∷ []) (a ∷ b ∷ []) []
inst s (I.Select d c t f) = make 0x05 (d ∷ []) (c ∷ t ∷ f ∷ []) []
inst s (I.BxorMulti d n) = make 0x06 (d ∷ []) (words s 9 n) []
inst s (I.Fax d a b c) = make 0x07 (d ∷ []) (a ∷ b ∷ c ∷ []) []
inst s (I.Shift d a v m) = make 0x10 (d ∷ []) (a ∷ []) (v ∷ m ∷ [])
inst s (I.IaddCinCout d e a b c) = make 0x21 (d ∷ e ∷ []) (a ∷ b ∷ c ∷ []) []
inst s (I.IaddCarry d a b) = make 0x22 (d ∷ []) (a ∷ b ∷ []) []
inst s (I.IsubBinBout d e a b c) = make 0x23 (d ∷ e ∷ []) (a ∷ b ∷ c ∷ []) []
inst s (I.Imul h l a b) = make 0x30 (h ∷ l ∷ []) (a ∷ b ∷ []) []
inst s (I.Iadd32CinCout d e a b c) = make 0x40 (d ∷ e ∷ []) (a ∷ b ∷ c ∷ []) []
inst s (I.Iadd32Cout d e a b) = make 0x46 (d ∷ e ∷ []) (a ∷ b ∷ []) []
inst s (I.AssertEq a b p) = make 0x60 [] (a ∷ b ∷ []) (p ∷ [])
inst s (I.AssertEqCond c a b p) = make 0x61 [] (c ∷ a ∷ b ∷ []) (p ∷ [])
inst s (I.AssertZero a p) = make 0x62 [] (a ∷ []) (p ∷ [])
inst s (I.AssertNonZero a p) = make 0x63 [] (a ∷ []) (p ∷ [])
inst s (I.AssertFalse a p) = make 0x64 [] (a ∷ []) (p ∷ [])
inst s (I.AssertTrue a p) = make 0x65 [] (a ∷ []) (p ∷ [])
inst s (I.Hint id d i o) = make 0x80 (words s (17 + 4 * (d + i)) o) (words s (17 + 4 * d) i) (id ∷ words s 9 d)
