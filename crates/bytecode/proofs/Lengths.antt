-- Document 01's total lengths, which follow from the shapes of the opcode table. Assumes nothing.
use Prim.Native.Nat.{ℕ, ◌+◌, ◌*◌}
use mathlib.Core.Path.{◌≡◌, refl}
use mathlib.Core.List.{List, [], ◌∷◌, map, append-nil}
use lib.ListN.{length}
use Rattle.bytecode.specs.Opcode.{shape_of}
use Rattle.bytecode.specs.Layout.{word_at, size_as}
use Rattle.bytecode.specs.Instruction.{Inst}
use Rattle.bytecode.specs.Encode.{encode, Formed}
use Rattle.refusal.specs.declared.Refusal.{Refusal}
use Rattle.std.proofs.Common.{Result, Ok}
use Rattle.bytecode.proofs.RoundTrip.{round_trip}
use Rattle.bytecode.proofs.Parses.{whole_read}

-- an opcode's length, in bytes that hold its counts
abbrev sizes : List ℕ → List ℕ → List (Result ℕ Refusal)
sizes s = map (λ (op : ℕ). size_as (shape_of op) s)

-- Band, Bor, Bxor, IaddCarry 13; Select, Fax 17; Shift 11; IaddCinCout, IsubBinBout 21; Imul 17; Iadd32CinCout 21; Iadd32Cout 17; AssertEq 13; AssertEqCond 17; the four other
-- assertions 9
pub fixed_lengths : (s : List ℕ)
    → sizes s (0x01 ∷ 0x02 ∷ 0x03 ∷ 0x22 ∷ 0x05 ∷ 0x07 ∷ 0x10 ∷ 0x21 ∷ 0x23 ∷ 0x30 ∷ 0x40 ∷ 0x46 ∷ 0x60 ∷ 0x61 ∷ 0x62 ∷ 0x63 ∷ 0x64 ∷ 0x65 ∷ [])
    ≡ map Ok (13 ∷ 13 ∷ 13 ∷ 13 ∷ 17 ∷ 17 ∷ 11 ∷ 21 ∷ 21 ∷ 17 ∷ 21 ∷ 17 ∷ 13 ∷ 17 ∷ 9 ∷ 9 ∷ 9 ∷ 9 ∷ [])
unfolding size_as
fixed_lengths s = refl

-- BxorMulti 9 + 4n, n being the count after its destination
pub multi_length : (s : List ℕ) → size_as (shape_of 0x06) s ≡ Ok (9 + 4 * word_at s 5)
unfolding size_as
multi_length s = refl

-- Hint 17 + 4(d + i + o), the counts where they lie
pub hint-length : (s : List ℕ) (d i o : ℕ) → word_at s 5 ≡ d → word_at s (9 + 4 * d) ≡ i → word_at s (13 + 4 * d) ≡ o → size_as (shape_of 0x80) s ≡ Ok (17 + 4 * (d + i + o))
unfolding size_as
hint-length s d i o e f g = rw (e, f, g)

-- and they are the lengths of what is encoded
pub encoded_length : (i : Inst) → Formed i → size_as (shape_of i.op) (encode i) ≡ Ok (length (encode i))
encoded_length i f =
    (whole_read (encode i) i (length (encode i)) (rw (append-nil (encode i)) at (round_trip i [] f))).size
