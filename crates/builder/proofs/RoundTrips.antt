-- From an emitter's arguments and buffer to the decoder's answer, and back. Assumes nothing.
use Prim.Native.Nat.{ℕ, ◌+◌, ◌-◌, ◌^◌, ◌<◌}
use mathlib.Core.Path.{◌≡◌, refl, sym, ap, ◌∙◌}
use mathlib.Core.List.{List, [], ◌∷◌, ◌++◌, append_assoc}
use mathlib.Core.Bool.{Bool, true, false, cond, and-false}
use native.Mathlib.Omega.{arith}
use borrow.Author.Tests.{ne_eqb}
use lib.ListN.{length, take, drop, length-append}
use lib.Seq.{sets, sets-eq, drop_at, take_at, length-take-le}
use Rattle.std.specs.Prelude.{Result, Ok}
use Rattle.refusal.specs.declared.RefusedAt.{RefusedAt}
use Rattle.common.specs.Lists.{all_below}
use Rattle.common.proofs.Below.{below_tail}
use Rattle.bytecode.specs.Layout.{AreBytes}
use Rattle.bytecode.specs.Instruction.{Inst, inst, shift_bad_variant}
use Rattle.bytecode.specs.Encode.{encode, Formed}
use Rattle.bytecode.specs.Parse.{whole, told, parse}
use Rattle.bytecode.specs.declared.instruction.Instruction.{Instruction}
use Rattle.bytecode.specs.declared.instruction.Instruction.TheVariants as I
use Rattle.bytecode.specs.declared.decoder.Decoded.{Decoded}
use Rattle.bytecode.proofs.Tables.{settle}
use Rattle.bytecode.proofs.Parses.{whole_read}
use Rattle.bytecode.proofs.RoundTrip.{round_trip}
use Rattle.bytecode.proofs.BytesBack.{bytes_back, parsed_formed}
use Rattle.bytecode.proofs.Programs.{whole_within}
use Rattle.bytecode.proofs.Cases.{told_whole}
use Rattle.builder.specs.Call.{Call, laid, case_of, call_of}
use Rattle.builder.specs.Emit.{Emission, done, refused, said, no_room, advanced, bad_dimension, emission, stored, EmitsInst, Emits}
use Rattle.builder.specs.declared.BytecodeBuilder.{BytecodeBuilder}
use Rattle.builder.specs.declared.Unemitted.{Unemitted}
use Rattle.builder.proofs.Room.{Roomy, roomy}
use Rattle.builder.proofs.Calls.{Typed, call_formed, case_call}

-- ---- what an emitter that was not refused has done

pub record Laid (i : Inst) (b : BytecodeBuilder) (s : List ℕ) (b' : BytecodeBuilder) (after : List ℕ) : Type 0 where
  pub variant : shift_bad_variant i ≡ false
  pub dimension : bad_dimension i ≡ false
  pub room : Roomy b (length s) (length (encode i))
  pub state : b' ≡ advanced b (length (encode i))
  pub bytes : after ≡ sets s b.len (encode i)

pub apart : (r : ℕ) (b b' : BytecodeBuilder) → refused r b ≡ done b' → ⊥
apart r b b' e = let z : ◌≡◌ {A = ℕ} 0 1 = cc in omega arith

pub emitted_laid : (i : Inst) (b : BytecodeBuilder) (s : List ℕ) (r : Result BytecodeBuilder Unemitted) (after : List ℕ) (b' : BytecodeBuilder) → EmitsInst i b s r after → said r ≡ done b' → Laid i b s b' after
unfolding emission
emitted_laid i b s r after b' x e = go (shift_bad_variant i) (bad_dimension i) (no_room b (length s) (length (encode i))) refl refl refl (sym x.answer ∙ e) x.bytes
  where
    answer : Bool → Bool → Bool → Emission
    answer v d n = cond v (refused 7 b) (cond d (refused 8 b) (cond n (refused 11 b) (done (advanced b (length (encode i))))))

    go : (v d n : Bool) → shift_bad_variant i ≡ v → bad_dimension i ≡ d → no_room b (length s) (length (encode i)) ≡ n → answer v d n ≡ done b' → after ≡ stored (answer v d n) (encode i) b s → Laid i b s b' after
    go true d n p q w e y = absurd (apart 7 b b' e)
    go false true n p q w e y = absurd (apart 8 b b' e)
    go false false true p q w e y = absurd (apart 11 b b' e)
    go false false false p q w e y = record { variant = p; dimension = q; room = roomy b (length s) (length (encode i)) w; state = sym (cc); bytes = y }

-- the buffer after it: what was before the state's length, the encoded bytes, and what was after them
module _ (i : Inst) (b : BytecodeBuilder) (s : List ℕ) (b' : BytecodeBuilder) (after : List ℕ) (l : Laid i b s b' after) where
  unfoldable pub behind : List ℕ
  behind = drop (b.len + length (encode i)) s

  parts : after ≡ (take b.len s ++ encode i) ++ behind
  unfolding behind
  parts = l.bytes ∙ sets-eq (encode i) s b.len l.room.buffer

  front : length (take b.len s) ≡ b.len
  front = length-take-le b.len s (omega (arith, l.room))

  -- from the old length on
  pub laid_rest : drop b.len after ≡ encode i ++ behind
  laid_rest =
      ap (drop b.len) (parts ∙ append_assoc (take b.len s) (encode i) behind)
      ∙ drop_at (take b.len s) (encode i ++ behind) b.len front

  -- up to the new length
  pub laid_front : take b'.len after ≡ take b.len s ++ encode i
  laid_front =
      ap (take b'.len) parts
      ∙ take_at (take b.len s ++ encode i) behind b'.len (omega (arith, front, length-append (take b.len s) (encode i), ap (λ (x : BytecodeBuilder). x.len) l.state))

-- ---- decoding what was emitted

-- the decoder's answer at the old length: the emitter's case with its arguments and, as a length, what the state's length has grown by
pub record Decodes (c : Call) (b b' : BytecodeBuilder) (part : List ℕ) (d : Result Decoded RefusedAt) : Type 0 where
  pub case : d ≡ Ok (record { instruction = case_of c; length = b'.len - b.len })
  pub instruction : told part d ≡ whole (laid c) (b'.len - b.len)

pub emitted_decoded : (c : Call) → Typed c → (b b' : BytecodeBuilder) (s after : List ℕ) (r : Result BytecodeBuilder Unemitted) → Emits c b s r after → said r ≡ done b'
    → (d : Result Decoded RefusedAt) → told (drop b.len after) d ≡ parse (drop b.len after) → Decodes c b b' (drop b.len after) d
emitted_decoded c t b b' s after r x e d p =
    let l = emitted_laid (laid c) b s r after b' x e in
    let f = call_formed c t l.variant l.dimension (omega (arith, l.room)) in
    let n : length (encode (laid c)) ≡ b'.len - b.len = omega (arith, ap (λ (x : BytecodeBuilder). x.len) l.state) in
    let q = p ∙ ap parse (laid_rest (laid c) b s b' after l) ∙ round_trip (laid c) (behind (laid c) b s b' after l) f ∙ ap (whole (laid c)) n in
    record { case = told_whole (drop b.len after) d (laid c) (b'.len - b.len) q ∙ ap (λ (j : Instruction). Ok (record { instruction = j; length = b'.len - b.len })) (case_call c); instruction = q }

-- ---- emitting what was decoded

laid_inst : (s : List ℕ) (j : Instruction) → laid (call_of s j) ≡ inst s j
unfolding inst
laid_inst s (I.Band d a b) = refl
laid_inst s (I.Bor d a b) = refl
laid_inst s (I.Bxor d a b) = refl
laid_inst s (I.BxorMulti d n) = refl
laid_inst s (I.Fax d a b c) = refl
laid_inst s (I.Select d c t f) = refl
laid_inst s (I.Shift d a v m) = refl
laid_inst s (I.IaddCinCout d e a b c) = refl
laid_inst s (I.IaddCarry d a b) = refl
laid_inst s (I.IsubBinBout d e a b c) = refl
laid_inst s (I.Imul h l a b) = refl
laid_inst s (I.Iadd32CinCout d e a b c) = refl
laid_inst s (I.Iadd32Cout d e a b) = refl
laid_inst s (I.AssertEq a b p) = refl
laid_inst s (I.AssertEqCond c a b p) = refl
laid_inst s (I.AssertZero a p) = refl
laid_inst s (I.AssertNonZero a p) = refl
laid_inst s (I.AssertFalse a p) = refl
laid_inst s (I.AssertTrue a p) = refl
laid_inst s (I.Hint id d i o) = refl

-- a formed hint's dimensions fit their fields
formed_dimension : (i : Inst) → Formed i → bad_dimension i ≡ false
formed_dimension i f =
    settle i.op 0x80
    (λ e. rw (dims i.numbers (rw e at f).shape.0 f.numbers, and-false))
    (λ n. rw (ne_eqb i.op 0x80 n))
  where
    dims : (ns : List ℕ) → 0 < length ns → all_below (2 ^ 32) ns ≡ true → all_below 4294967296 (drop 1 ns) ≡ true
    dims [] h e = absurd (omega arith)
    dims (x ∷ ns) h e = below_tail (2 ^ 32) x ns e

module _ (s : List ℕ) (ok : AreBytes s) (d : Result Decoded RefusedAt) (p : told s d ≡ parse s) (j : Instruction) (n : ℕ) (q : d ≡ Ok (record { instruction = j; length = n })) where
  parsed : parse s ≡ whole (laid (call_of s j)) n
  unfolding told
  parsed = sym p ∙ ap (told s) q ∙ ap (λ (i : Inst). whole i n) (sym (laid_inst s j))

  abbrev i : Inst
  i = laid (call_of s j)

  variant_ok : shift_bad_variant i ≡ false
  variant_ok = (whole_read s i n parsed).variant

  dimension_ok : bad_dimension i ≡ false
  dimension_ok = formed_dimension i (parsed_formed s ok i n parsed)

  size : length (encode i) ≡ n
  size = ap length (bytes_back s ok i n parsed) ∙ length-take-le n s (whole_within s i n parsed).1

  module _ (b : BytecodeBuilder) (t : List ℕ) (r : Result BytecodeBuilder Unemitted) (after : List ℕ) (x : Emits (call_of s j) b t r after) where
    -- its emitter judges the room alone
    pub room_alone : said r ≡ cond (no_room b (length t) n) (refused 11 b) (done (advanced b n))
    unfolding emission
    room_alone = x.answer ∙ rw (variant_ok, dimension_ok, size)

    -- so it is never refused 7 or 8
    pub never_bad : (k : ℕ) (b' : BytecodeBuilder) → said r ≡ refused k b' → k ≡ 11
    never_bad k b' e = go (no_room b (length t) n) (sym room_alone ∙ e)
      where
        go : (m : Bool) → cond m (refused 11 b) (done (advanced b n)) ≡ refused k b' → k ≡ 11
        go true e = cc
        go false e = absurd (apart k b' (advanced b n) (sym e))

    -- and, given room, it writes the same bytes
    pub same_bytes : no_room b (length t) n ≡ false → (said r ≡ done (advanced b n)) × (after ≡ sets t b.len (take n s))
    unfolding emission
    same_bytes m = (room_alone ∙ rw m, x.bytes ∙ rw (variant_ok, dimension_ok, size, m) (ap (sets t b.len) (bytes_back s ok i n parsed)))
