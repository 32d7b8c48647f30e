-- What an emitter lays from its arguments is an instruction that the layout holds. Assumes nothing.
use Prim.Native.Nat.{ℕ, ◌^◌, ◌≤◌, ◌<◌}
use mathlib.Core.Path.{◌≡◌, refl}
use mathlib.Core.List.{List, [], ◌∷◌, ◌++◌}
use mathlib.Core.Bool.{true, false}
use native.Mathlib.Omega.{arith}
use borrow.Author.Tests.{ltb-false, not-false}
use lib.ListN.{length, length-append}
use Rattle.common.specs.Lists.{all_below}
use Rattle.common.proofs.Below.{below_split, below-cons, below_head, below_tail, below_more}
use Rattle.bytecode.specs.Opcode.{shape_of}
use Rattle.bytecode.specs.Instruction.{Inst, shift_bad_variant}
use Rattle.bytecode.specs.Encode.{encode, FormedAs, Formed}
use Rattle.bytecode.proofs.Words.{length-les}
use Rattle.bytecode.proofs.Cases.{enum_case}
use Rattle.builder.specs.Call.{
  Call,
  laid,
  case_of,
  band,
  bor,
  bxor,
  bxor_multi,
  fax,
  select,
  shift,
  iadd_cin_cout,
  iadd_carry,
  isub_bin_bout,
  imul,
  iadd32_cin_cout,
  iadd32_cout,
  assert_eq,
  assert_eq_cond,
  assert_zero,
  assert_non_zero,
  assert_false,
  assert_true,
  hint,
}
use Rattle.builder.specs.Emit.{bad_dimension}

-- what the types of an emitter's parameters say of its arguments: each a u32, but for a shift's variant and amount, which are bytes, and a hint's
-- dimensions, which the emitter judges
abbrev pub Typed : Call → Type 0
Typed (band a b c) = all_below (2 ^ 32) (a ∷ b ∷ c ∷ []) ≡ true
Typed (bor a b c) = all_below (2 ^ 32) (a ∷ b ∷ c ∷ []) ≡ true
Typed (bxor a b c) = all_below (2 ^ 32) (a ∷ b ∷ c ∷ []) ≡ true
Typed (bxor_multi d ss) = all_below (2 ^ 32) (d ∷ ss) ≡ true
Typed (fax a b c d) = all_below (2 ^ 32) (a ∷ b ∷ c ∷ d ∷ []) ≡ true
Typed (select a b c d) = all_below (2 ^ 32) (a ∷ b ∷ c ∷ d ∷ []) ≡ true
Typed (shift d a v m) = (all_below (2 ^ 32) (d ∷ a ∷ []) ≡ true) × (all_below 256 (v ∷ m ∷ []) ≡ true)
Typed (iadd_cin_cout a b c d e) = all_below (2 ^ 32) (a ∷ b ∷ c ∷ d ∷ e ∷ []) ≡ true
Typed (iadd_carry a b c) = all_below (2 ^ 32) (a ∷ b ∷ c ∷ []) ≡ true
Typed (isub_bin_bout a b c d e) = all_below (2 ^ 32) (a ∷ b ∷ c ∷ d ∷ e ∷ []) ≡ true
Typed (imul a b c d) = all_below (2 ^ 32) (a ∷ b ∷ c ∷ d ∷ []) ≡ true
Typed (iadd32_cin_cout a b c d e) = all_below (2 ^ 32) (a ∷ b ∷ c ∷ d ∷ e ∷ []) ≡ true
Typed (iadd32_cout a b c d) = all_below (2 ^ 32) (a ∷ b ∷ c ∷ d ∷ []) ≡ true
Typed (assert_eq a b c) = all_below (2 ^ 32) (a ∷ b ∷ c ∷ []) ≡ true
Typed (assert_eq_cond a b c d) = all_below (2 ^ 32) (a ∷ b ∷ c ∷ d ∷ []) ≡ true
Typed (assert_zero a b) = all_below (2 ^ 32) (a ∷ b ∷ []) ≡ true
Typed (assert_non_zero a b) = all_below (2 ^ 32) (a ∷ b ∷ []) ≡ true
Typed (assert_false a b) = all_below (2 ^ 32) (a ∷ b ∷ []) ≡ true
Typed (assert_true a b) = all_below (2 ^ 32) (a ∷ b ∷ []) ≡ true
Typed (hint id dims ins outs) = (id < 2 ^ 32) × (all_below (2 ^ 32) ins ≡ true) × (all_below (2 ^ 32) outs ≡ true)

-- ---- what the emitters let through is formed

-- the fields of a plain instruction are all of its arguments
parted : (i : Inst) → FormedAs (shape_of i.op) i → all_below (2 ^ 32) (i.dests ++ (i.sources ++ i.numbers)) ≡ true → Formed i
parted i f t =
    let p = below_split (2 ^ 32) i.dests (i.sources ++ i.numbers) t in
    let q = below_split (2 ^ 32) i.sources i.numbers p.1 in
    record { shape = f; dests = p.0; sources = q.0; numbers = q.1 }

-- a list is shorter than the bytes of its fields
short_multi : (d : ℕ) (ss : List ℕ) → length (encode (laid (bxor_multi d ss))) ≤ 65536 → length ss < 2 ^ 32
short_multi d ss h = omega (arith, length-les ss)

short_hint : (id : ℕ) (dims ins outs : List ℕ) → length (encode (laid (hint id dims ins outs))) ≤ 65536
    → (length (id ∷ dims) ≤ 2 ^ 32) × (length ins < 2 ^ 32) × (length outs < 2 ^ 32)
short_hint id dims ins outs h =
    let fs = length ins ∷ length outs ∷ (ins ++ outs) in
    omega (arith, length-les (dims ++ fs), length-append dims fs, length-append ins outs)

-- given what an emitter judges: the variant, the dimensions and the room
pub call_formed : (c : Call) → Typed c → shift_bad_variant (laid c) ≡ false → bad_dimension (laid c) ≡ false → length (encode (laid c)) ≤ 65536 → Formed (laid c)
call_formed (band a b c) t v m h = parted (laid (band a b c)) (refl, refl, refl) t
call_formed (bor a b c) t v m h = parted (laid (bor a b c)) (refl, refl, refl) t
call_formed (bxor a b c) t v m h = parted (laid (bxor a b c)) (refl, refl, refl) t
call_formed (bxor_multi d ss) t v m h = record { shape = (refl, refl, short_multi d ss h); dests = below-cons (2 ^ 32) d [] (below_head (2 ^ 32) d ss t) refl; sources = below_tail (2 ^ 32) d ss t; numbers = refl }
call_formed (fax a b c d) t v m h = parted (laid (fax a b c d)) (refl, refl, refl) t
call_formed (select a b c d) t v m h = parted (laid (select a b c d)) (refl, refl, refl) t
call_formed (shift d a v m) t w x h =
    let p = below_split (2 ^ 32) (d ∷ []) (a ∷ []) t.0 in
    record { shape = (refl, refl, refl, ltb-false 7 v w, t.1); dests = p.0; sources = p.1; numbers = below_more 256 (2 ^ 32) (v ∷ m ∷ []) (omega arith) t.1 }
call_formed (iadd_cin_cout a b c d e) t v m h = parted (laid (iadd_cin_cout a b c d e)) (refl, refl, refl) t
call_formed (iadd_carry a b c) t v m h = parted (laid (iadd_carry a b c)) (refl, refl, refl) t
call_formed (isub_bin_bout a b c d e) t v m h = parted (laid (isub_bin_bout a b c d e)) (refl, refl, refl) t
call_formed (imul a b c d) t v m h = parted (laid (imul a b c d)) (refl, refl, refl) t
call_formed (iadd32_cin_cout a b c d e) t v m h = parted (laid (iadd32_cin_cout a b c d e)) (refl, refl, refl) t
call_formed (iadd32_cout a b c d) t v m h = parted (laid (iadd32_cout a b c d)) (refl, refl, refl) t
call_formed (assert_eq a b c) t v m h = parted (laid (assert_eq a b c)) (refl, refl, refl) t
call_formed (assert_eq_cond a b c d) t v m h = parted (laid (assert_eq_cond a b c d)) (refl, refl, refl) t
call_formed (assert_zero a b) t v m h = parted (laid (assert_zero a b)) (refl, refl, refl) t
call_formed (assert_non_zero a b) t v m h = parted (laid (assert_non_zero a b)) (refl, refl, refl) t
call_formed (assert_false a b) t v m h = parted (laid (assert_false a b)) (refl, refl, refl) t
call_formed (assert_true a b) t v m h = parted (laid (assert_true a b)) (refl, refl, refl) t
call_formed (hint id dims ins outs) t v m h =
    let s = short_hint id dims ins outs h in
    record { shape = (omega arith, s.0, s.1, s.2); dests = t.2; sources = t.1; numbers = below-cons (2 ^ 32) id dims t.0 (not-false _ m) }

-- ---- the case that decodes it is the decoder's

pub case_call : (c : Call) → enum_case (laid c) ≡ case_of c
unfolding enum_case
case_call (band a b c) = refl
case_call (bor a b c) = refl
case_call (bxor a b c) = refl
case_call (bxor_multi d ss) = refl
case_call (fax a b c d) = refl
case_call (select a b c d) = refl
case_call (shift d a v m) = refl
case_call (iadd_cin_cout a b c d e) = refl
case_call (iadd_carry a b c) = refl
case_call (isub_bin_bout a b c d e) = refl
case_call (imul a b c d) = refl
case_call (iadd32_cin_cout a b c d e) = refl
case_call (iadd32_cout a b c d) = refl
case_call (assert_eq a b c) = refl
case_call (assert_eq_cond a b c d) = refl
case_call (assert_zero a b) = refl
case_call (assert_non_zero a b) = refl
case_call (assert_false a b) = refl
case_call (assert_true a b) = refl
case_call (hint id dims ins outs) = refl
