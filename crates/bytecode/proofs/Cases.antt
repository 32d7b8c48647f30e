-- Two answers of the decoder that say the same are the same: the contract of `decode` settles its answer. Assumes nothing.
use Prim.Native.Nat.{ℕ}
use mathlib.Core.Path.{◌≡◌, refl, sym, ap, ap₂, ◌∙◌}
use mathlib.Core.List.{List}
use mathlib.Core.Bool.{cond}
use lib.ListN.{length, get_or, drop}
use lib.Dec.{eqb}
use Rattle.refusal.specs.Number.{number_of}
use Rattle.refusal.specs.declared.Refusal.{Refusal}
use Rattle.refusal.specs.declared.RefusedAt.{RefusedAt}
use Rattle.refusal.proofs.Numbers.{number_names_one}
use Rattle.bytecode.specs.Instruction.{Inst, inst}
use Rattle.bytecode.specs.Parse.{whole, refused, told}
use Rattle.bytecode.specs.declared.instruction.Instruction.{Instruction}
use Rattle.bytecode.specs.declared.instruction.Instruction.TheVariants as I
use Rattle.bytecode.specs.declared.decoder.Decoded.{Decoded}
use Rattle.std.proofs.Common.{Result, Ok, Err}
use Rattle.bytecode.proofs.Words.{length-words}
use Rattle.bytecode.proofs.Parses.{clash}

-- the case of the enum that an instruction is
unfoldable pub enum_case : Inst → Instruction
enum_case i =
    cond (eqb i.op 0x01) (I.Band (get_or i.dests 0 0) (get_or i.sources 0 0) (get_or i.sources 1 0)) (
    cond (eqb i.op 0x02) (I.Bor (get_or i.dests 0 0) (get_or i.sources 0 0) (get_or i.sources 1 0)) (
    cond (eqb i.op 0x03) (I.Bxor (get_or i.dests 0 0) (get_or i.sources 0 0) (get_or i.sources 1 0)) (
    cond (eqb i.op 0x05) (I.Select (get_or i.dests 0 0) (get_or i.sources 0 0) (get_or i.sources 1 0) (get_or i.sources 2 0)) (
    cond (eqb i.op 0x07) (I.Fax (get_or i.dests 0 0) (get_or i.sources 0 0) (get_or i.sources 1 0) (get_or i.sources 2 0)) (
    cond (eqb i.op 0x10) (I.Shift (get_or i.dests 0 0) (get_or i.sources 0 0) (get_or i.numbers 0 0) (get_or i.numbers 1 0)) (
    cond (eqb i.op 0x21) (I.IaddCinCout (get_or i.dests 0 0) (get_or i.dests 1 0) (get_or i.sources 0 0) (get_or i.sources 1 0) (get_or i.sources 2 0)) (
    cond (eqb i.op 0x22) (I.IaddCarry (get_or i.dests 0 0) (get_or i.sources 0 0) (get_or i.sources 1 0)) (
    cond (eqb i.op 0x23) (I.IsubBinBout (get_or i.dests 0 0) (get_or i.dests 1 0) (get_or i.sources 0 0) (get_or i.sources 1 0) (get_or i.sources 2 0)) (
    cond (eqb i.op 0x30) (I.Imul (get_or i.dests 0 0) (get_or i.dests 1 0) (get_or i.sources 0 0) (get_or i.sources 1 0)) (
    cond (eqb i.op 0x40) (I.Iadd32CinCout (get_or i.dests 0 0) (get_or i.dests 1 0) (get_or i.sources 0 0) (get_or i.sources 1 0) (get_or i.sources 2 0)) (
    cond (eqb i.op 0x46) (I.Iadd32Cout (get_or i.dests 0 0) (get_or i.dests 1 0) (get_or i.sources 0 0) (get_or i.sources 1 0)) (
    cond (eqb i.op 0x60) (I.AssertEq (get_or i.sources 0 0) (get_or i.sources 1 0) (get_or i.numbers 0 0)) (
    cond (eqb i.op 0x61) (I.AssertEqCond (get_or i.sources 0 0) (get_or i.sources 1 0) (get_or i.sources 2 0) (get_or i.numbers 0 0)) (
    cond (eqb i.op 0x62) (I.AssertZero (get_or i.sources 0 0) (get_or i.numbers 0 0)) (
    cond (eqb i.op 0x63) (I.AssertNonZero (get_or i.sources 0 0) (get_or i.numbers 0 0)) (
    cond (eqb i.op 0x64) (I.AssertFalse (get_or i.sources 0 0) (get_or i.numbers 0 0)) (
    cond (eqb i.op 0x65) (I.AssertTrue (get_or i.sources 0 0) (get_or i.numbers 0 0)) (
    cond (eqb i.op 0x06) (I.BxorMulti (get_or i.dests 0 0) (length i.sources))
    (I.Hint (get_or i.numbers 0 0) (length (drop 1 i.numbers)) (length i.sources) (length i.dests))))))))))))))))))))

pub case_inst : (s : List ℕ) (i : Instruction) → enum_case (inst s i) ≡ i
unfolding enum_case inst
case_inst s (I.Band a b c) = refl
case_inst s (I.Bor a b c) = refl
case_inst s (I.Bxor a b c) = refl
case_inst s (I.Select a b c d) = refl
case_inst s (I.Fax a b c d) = refl
case_inst s (I.Shift a b c d) = refl
case_inst s (I.IaddCinCout a b c d e) = refl
case_inst s (I.IaddCarry a b c) = refl
case_inst s (I.IsubBinBout a b c d e) = refl
case_inst s (I.Imul a b c d) = refl
case_inst s (I.Iadd32CinCout a b c d e) = refl
case_inst s (I.Iadd32Cout a b c d) = refl
case_inst s (I.AssertEq a b c) = refl
case_inst s (I.AssertEqCond a b c d) = refl
case_inst s (I.AssertZero a b) = refl
case_inst s (I.AssertNonZero a b) = refl
case_inst s (I.AssertFalse a b) = refl
case_inst s (I.AssertTrue a b) = refl
case_inst s (I.BxorMulti d n) = rw length-words
case_inst s (I.Hint x d i o) = rw (length-words, length-words, length-words)

-- an instruction that was told is that case
pub told_whole : (s : List ℕ) (d : Result Decoded RefusedAt) (i : Inst) (n : ℕ) → told s d ≡ whole i n → d ≡ Ok (record { instruction = enum_case i; length = n })
unfolding told
told_whole s (Ok d) i n e =
    let p : inst s d.instruction ≡ i = cc in
    let q : d.length ≡ n = cc in
    ap₂ (λ (j : Instruction) (m : ℕ). Ok (record { instruction = j; length = m })) (sym (case_inst s d.instruction) ∙ ap enum_case p) q
told_whole s (Err r) i n e = absurd (clash (number_of r.refusal) r.offset i n e)

-- a refusal that was told, by its number
told_refused : (s : List ℕ) (d : Result Decoded RefusedAt) (r : RefusedAt) → told s d ≡ refused (number_of r.refusal) r.offset → d ≡ Err r
unfolding told
told_refused s (Ok d) r e = absurd (clash (number_of r.refusal) r.offset (inst s d.instruction) d.length (sym e))
told_refused s (Err q) r e =
    let p : number_of q.refusal ≡ number_of r.refusal = cc in
    let k : q.offset ≡ r.offset = cc in
    ap₂ (λ (f : Refusal) (o : ℕ). Err (record { refusal = f; offset = o })) (number_names_one q.refusal r.refusal p) k

pub decoded_one : (s : List ℕ) (a b : Result Decoded RefusedAt) → told s a ≡ told s b → a ≡ b
unfolding told
decoded_one s a (Ok d) e =
    told_whole s a (inst s d.instruction) d.length e
    ∙ ap (λ (j : Instruction). Ok (record { instruction = j; length = d.length })) (case_inst s d.instruction)
decoded_one s a (Err r) e = told_refused s a r e
