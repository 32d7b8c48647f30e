-- Document 01, "Numbered refusals": what the decoder answers, the refusals in their order. Assumes nothing.
use Rattle.std.specs.Prelude.{ℕ, ◌+◌, ◌*◌, List, [], ◌∷◌, Bool, cond, length, get_or, eqb, ltb, Result, Ok, Err}
use Rattle.refusal.specs.Number.{number_of}
use Rattle.refusal.specs.declared.Refusal.{Refusal}
use Rattle.refusal.specs.declared.Refusal.TheVariants as R
use Rattle.refusal.specs.declared.RefusedAt.{RefusedAt}
use Rattle.bytecode.specs.Opcode.{shape_of}
use Rattle.bytecode.specs.Layout.{word_at, words, size_as}
use Rattle.bytecode.specs.Instruction.{Inst, make, inst, shift_bad_variant}
use Rattle.bytecode.specs.declared.opcode.Shape.{Shape}
use Rattle.bytecode.specs.declared.opcode.Shape.TheVariants as S
use Rattle.bytecode.specs.declared.decoder.Decoded.{Decoded}

-- an instruction with its length in bytes, or a refusal by its number with an offset from the start of the part
pub data Parsed : Type 0 where
  whole : Inst → ℕ → Parsed
  refused : ℕ → ℕ → Parsed

-- what each case of the decoder's answer says, `s` being the bytes that it was handed
unfoldable pub told : List ℕ → Result Decoded RefusedAt → Parsed
told s (Ok d) = whole (inst s d.instruction) d.length
told s (Err r) = refused (number_of r.refusal) r.offset

-- the instruction that the bytes hold, given its shape
unfoldable pub read_as : Shape → ℕ → List ℕ → Inst
read_as S.Unknown op s = make op [] [] []
read_as S.NotCarried op s = make op [] [] []
read_as (S.Fixed d n p) op s = make op (words s 1 d) (words s (1 + 4 * d) n) (words s (1 + 4 * (d + n)) p)
read_as S.Shift op s = make op (words s 1 1) (words s 5 1) (get_or s 9 0 ∷ get_or s 10 0 ∷ [])
read_as S.Many op s = make op (words s 1 1) (words s 9 (word_at s 5)) []
read_as S.Hint op s =
    let d : ℕ = word_at s 5 in
    let i : ℕ = word_at s (9 + 4 * d) in
    let o : ℕ = word_at s (13 + 4 * d) in
    make op (words s (17 + 4 * (d + i)) o) (words s (17 + 4 * d) i) (word_at s 1 ∷ words s 9 d)

-- the instruction at the start of the bytes, whether whole or not
abbrev pub read : List ℕ → Inst
read s = read_as (shape_of (get_or s 0 0)) (get_or s 0 0) s

-- a refusal where the test holds, else what follows; every refusal of the decoder points at the opcode byte
abbrev pub refuse : Bool → Refusal → Parsed → Parsed
refuse t r p = cond t (refused (number_of r) 0) p

-- 4 and 5 are what the opcode table says; then 6, then 7 for the variant
unfoldable pub sized : Result ℕ Refusal → List ℕ → Parsed
sized (Err r) s = refused (number_of r) 0
sized (Ok n) s = refuse (ltb (length s) n) R.Truncated (refuse (shift_bad_variant (read s)) R.BadShift (whole (read s) n))

-- the instruction at the start of the bytes, or the first refusal; no bytes at all are Truncated
unfoldable pub parse : List ℕ → Parsed
parse s = refuse (eqb (length s) 0) R.Truncated (sized (size_as (shape_of (get_or s 0 0)) s) s)
