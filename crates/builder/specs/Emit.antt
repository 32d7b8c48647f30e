-- Document 01, "Numbered refusals" and "Instruction layout": what an emitter answers, and what the buffer holds afterwards. Assumes nothing.
use Rattle.std.specs.Prelude.{ℕ, ◌+◌, ◌≡◌, List, Bool, Result, Ok, Err, cond, not, ◌&&◌, ◌||◌, eqb, ltb, length, drop}
use Rattle.std.proofs.lemmas.List.Edits.{sets}
use Rattle.refusal.specs.Number.{number_of}
use Rattle.refusal.specs.declared.Refusal.{Refusal}
use Rattle.refusal.specs.declared.Refusal.TheVariants as R
use Rattle.common.specs.Lists.{all_below}
use Rattle.bytecode.specs.Instruction.{Inst, shift_bad_variant}
use Rattle.bytecode.specs.Encode.{encode}
use Rattle.builder.specs.Call.{Call, laid}
use Rattle.builder.specs.declared.BytecodeBuilder.{BytecodeBuilder}
use Rattle.builder.specs.declared.Unemitted.{Unemitted}

-- the state after the instruction, or a refusal by its number with the state that is handed back
pub data Emission : Type 0 where
  done : BytecodeBuilder → Emission
  refused : ℕ → BytecodeBuilder → Emission

-- what each case of an emitter's answer says
abbrev pub said : Result BytecodeBuilder Unemitted → Emission
said (Ok b) = done b
said (Err e) = refused (number_of e.refusal) e.builder

-- a fresh builder
abbrev pub fresh : BytecodeBuilder
fresh = record { len = 0; count = 0 }

-- 8 when emitting: a hint with a dimension over 4,294,967,295
abbrev pub bad_dimension : Inst → Bool
bad_dimension i = eqb i.op 0x80 && not (all_below 4294967296 (drop 1 i.numbers))

-- 11: n more bytes pass the buffer, of m, or 65,536; or the state's length exceeds the buffer, or its count its length
unfoldable pub no_room : BytecodeBuilder → ℕ → ℕ → Bool
no_room b m n = ltb m (b.len + n) || ltb 65536 (b.len + n) || ltb m b.len || ltb b.len b.count

-- n bytes and one instruction more
abbrev pub advanced : BytecodeBuilder → ℕ → BytecodeBuilder
advanced b n = record { len = b.len + n; count = b.count + 1 }

-- the refusal where the test holds, with the state as it was; else what follows
abbrev pub refuse : Bool → Refusal → BytecodeBuilder → Emission → Emission
refuse t r b e = cond t (refused (number_of r) b) e

-- the answer of an emitter of the bytes `bs` to a buffer `s`: 7 for the variant, 8 for a dimension, 11, in this order
unfoldable pub emission : Bool → Bool → List ℕ → BytecodeBuilder → List ℕ → Emission
emission variant dimension bs b s =
    refuse variant R.BadShift b
    (refuse dimension R.BadHint b
    (refuse (no_room b (length s) (length bs)) R.NoRoom b
    (done (advanced b (length bs)))))

-- the buffer after it: the bytes at the state's length, and nothing else, where there is no refusal
abbrev pub stored : Emission → List ℕ → BytecodeBuilder → List ℕ → List ℕ
stored (done b') bs b s = sets s b.len bs
stored (refused r b') bs b s = s

-- what emitting the bytes `bs` to a buffer `s` answers and leaves in it, given what is wrong with the instruction
pub record EmitsBytes (variant dimension : Bool) (bs : List ℕ) (b : BytecodeBuilder) (s : List ℕ) (r : Result BytecodeBuilder Unemitted) (after : List ℕ) : Type 0 where
  pub answer : said r ≡ emission variant dimension bs b s
  pub bytes : after ≡ stored (emission variant dimension bs b s) bs b s

-- the same of an instruction, and of a call
abbrev pub EmitsInst : Inst → BytecodeBuilder → List ℕ → Result BytecodeBuilder Unemitted → List ℕ → Type 0
EmitsInst i b s r after = EmitsBytes (shift_bad_variant i) (bad_dimension i) (encode i) b s r after

abbrev pub Emits : Call → BytecodeBuilder → List ℕ → Result BytecodeBuilder Unemitted → List ℕ → Type 0
Emits c b s r after = EmitsInst (laid c) b s r after
