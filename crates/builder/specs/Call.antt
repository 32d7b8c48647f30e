-- A call of an emitter: the instruction that it lays, and the decoder's case of that. Assumes nothing.
use Rattle.std.specs.Prelude.{ℕ, ◌+◌, ◌*◌, List, [], ◌∷◌, length}
use Rattle.bytecode.specs.Layout.{words}
use Rattle.bytecode.specs.Instruction.{Inst, make}
use Rattle.bytecode.specs.declared.instruction.Instruction.{Instruction}
use Rattle.bytecode.specs.declared.instruction.Instruction.TheVariants as I

-- an emitter each, with its arguments in the order of the parameters
pub data Call : Type 0 where
  band bor bxor : ℕ → ℕ → ℕ → Call
  bxor_multi : ℕ → List ℕ → Call
  fax select : ℕ → ℕ → ℕ → ℕ → Call
  shift : ℕ → ℕ → ℕ → ℕ → Call
  iadd_cin_cout : ℕ → ℕ → ℕ → ℕ → ℕ → Call
  iadd_carry : ℕ → ℕ → ℕ → Call
  isub_bin_bout : ℕ → ℕ → ℕ → ℕ → ℕ → Call
  imul : ℕ → ℕ → ℕ → ℕ → Call
  iadd32_cin_cout : ℕ → ℕ → ℕ → ℕ → ℕ → Call
  iadd32_cout : ℕ → ℕ → ℕ → ℕ → Call
  assert_eq : ℕ → ℕ → ℕ → Call
  assert_eq_cond : ℕ → ℕ → ℕ → ℕ → Call
  assert_zero assert_non_zero assert_false assert_true : ℕ → ℕ → Call
  hint : ℕ → List ℕ → List ℕ → List ℕ → Call

-- the instruction that is laid
abbrev pub laid : Call → Inst
laid (band d a b) = make 0x01 (d ∷ []) (a ∷ b ∷ []) []
laid (bor d a b) = make 0x02 (d ∷ []) (a ∷ b ∷ []) []
laid (bxor d a b) = make 0x03 (d ∷ []) (a ∷ b ∷ []) []
laid (bxor_multi d ss) = make 0x06 (d ∷ []) ss []
laid (fax d a b c) = make 0x07 (d ∷ []) (a ∷ b ∷ c ∷ []) []
laid (select d c t f) = make 0x05 (d ∷ []) (c ∷ t ∷ f ∷ []) []
laid (shift d a v m) = make 0x10 (d ∷ []) (a ∷ []) (v ∷ m ∷ [])
laid (iadd_cin_cout d e a b c) = make 0x21 (d ∷ e ∷ []) (a ∷ b ∷ c ∷ []) []
laid (iadd_carry d a b) = make 0x22 (d ∷ []) (a ∷ b ∷ []) []
laid (isub_bin_bout d e a b c) = make 0x23 (d ∷ e ∷ []) (a ∷ b ∷ c ∷ []) []
laid (imul h l a b) = make 0x30 (h ∷ l ∷ []) (a ∷ b ∷ []) []
laid (iadd32_cin_cout d e a b c) = make 0x40 (d ∷ e ∷ []) (a ∷ b ∷ c ∷ []) []
laid (iadd32_cout d e a b) = make 0x46 (d ∷ e ∷ []) (a ∷ b ∷ []) []
laid (assert_eq a b p) = make 0x60 [] (a ∷ b ∷ []) (p ∷ [])
laid (assert_eq_cond c a b p) = make 0x61 [] (c ∷ a ∷ b ∷ []) (p ∷ [])
laid (assert_zero a p) = make 0x62 [] (a ∷ []) (p ∷ [])
laid (assert_non_zero a p) = make 0x63 [] (a ∷ []) (p ∷ [])
laid (assert_false a p) = make 0x64 [] (a ∷ []) (p ∷ [])
laid (assert_true a p) = make 0x65 [] (a ∷ []) (p ∷ [])
laid (hint id dims ins outs) = make 0x80 outs ins (id ∷ dims)

-- the case that decodes it
abbrev pub case_of : Call → Instruction
case_of (band d a b) = I.Band d a b
case_of (bor d a b) = I.Bor d a b
case_of (bxor d a b) = I.Bxor d a b
case_of (bxor_multi d ss) = I.BxorMulti d (length ss)
case_of (fax d a b c) = I.Fax d a b c
case_of (select d c t f) = I.Select d c t f
case_of (shift d a v m) = I.Shift d a v m
case_of (iadd_cin_cout d e a b c) = I.IaddCinCout d e a b c
case_of (iadd_carry d a b) = I.IaddCarry d a b
case_of (isub_bin_bout d e a b c) = I.IsubBinBout d e a b c
case_of (imul h l a b) = I.Imul h l a b
case_of (iadd32_cin_cout d e a b c) = I.Iadd32CinCout d e a b c
case_of (iadd32_cout d e a b) = I.Iadd32Cout d e a b
case_of (assert_eq a b p) = I.AssertEq a b p
case_of (assert_eq_cond c a b p) = I.AssertEqCond c a b p
case_of (assert_zero a p) = I.AssertZero a p
case_of (assert_non_zero a p) = I.AssertNonZero a p
case_of (assert_false a p) = I.AssertFalse a p
case_of (assert_true a p) = I.AssertTrue a p
case_of (hint id dims ins outs) = I.Hint id (length dims) (length ins) (length outs)

-- the emitter of a decoded instruction, with its fields as arguments, `s` being the bytes that it was decoded from
abbrev pub call_of : List ℕ → Instruction → Call
call_of s (I.Band d a b) = band d a b
call_of s (I.Bor d a b) = bor d a b
call_of s (I.Bxor d a b) = bxor d a b
call_of s (I.BxorMulti d n) = bxor_multi d (words s 9 n)
call_of s (I.Fax d a b c) = fax d a b c
call_of s (I.Select d c t f) = select d c t f
call_of s (I.Shift d a v m) = shift d a v m
call_of s (I.IaddCinCout d e a b c) = iadd_cin_cout d e a b c
call_of s (I.IaddCarry d a b) = iadd_carry d a b
call_of s (I.IsubBinBout d e a b c) = isub_bin_bout d e a b c
call_of s (I.Imul h l a b) = imul h l a b
call_of s (I.Iadd32CinCout d e a b c) = iadd32_cin_cout d e a b c
call_of s (I.Iadd32Cout d e a b) = iadd32_cout d e a b
call_of s (I.AssertEq a b p) = assert_eq a b p
call_of s (I.AssertEqCond c a b p) = assert_eq_cond c a b p
call_of s (I.AssertZero a p) = assert_zero a p
call_of s (I.AssertNonZero a p) = assert_non_zero a p
call_of s (I.AssertFalse a p) = assert_false a p
call_of s (I.AssertTrue a p) = assert_true a p
call_of s (I.Hint id d i o) = hint id (words s 9 d) (words s (17 + 4 * d) i) (words s (17 + 4 * (d + i)) o)
