-- A decoded instruction's lists stand in its bytes. Assumes nothing.
use mathlib.Core.Path.{◌≡◌, sym, ap, ◌∙◌}
use mathlib.Core.List.{List}
use Prim.Native.Nat.{ℕ, ◌+◌, ◌*◌, ◌≤◌}
use native.Mathlib.Omega.{arith}
use lib.ListN.{length, get_or, drop}
use Rattle.std.specs.Prelude.{Ok}
use Rattle.bytecode.specs.Opcode.{shape_of}
use Rattle.bytecode.specs.Layout.{word_at, size_as}
use Rattle.bytecode.specs.Instruction.{Inst, inst}
use Rattle.bytecode.specs.Parse.{whole, parse, read_as}
use Rattle.bytecode.specs.declared.opcode.Shape.{Shape}
use Rattle.bytecode.specs.declared.instruction.Instruction.{Instruction}
use Rattle.bytecode.specs.declared.instruction.Instruction.TheVariants as I
use Rattle.bytecode.proofs.Words.{length-words}
use Rattle.bytecode.proofs.Parses.{whole_read, op_of}
use Rattle.fill.specs.Working.{Held}

-- what was read, by the opcode's shape
record Shaped (s : List ℕ) (i : Inst) (n : ℕ) (sh : Shape) : Type 0 where
  is_read : i ≡ read_as sh i.op s
  size : size_as sh s ≡ Ok n
  within : n ≤ length s

shaped : (s : List ℕ) (i : Inst) (n : ℕ) → parse s ≡ whole i n → Shaped s i n (shape_of i.op)
shaped s i n e =
    let r = whole_read s i n e in
    let op : get_or s 0 0 ≡ i.op = sym (ap (λ (j : Inst). j.op) r.is_read ∙ op_of (shape_of (get_or s 0 0)) (get_or s 0 0) s) in
    record { is_read = rw op at r.is_read; size = rw op at r.size; within = r.within }

many_held : (s : List ℕ) (d n len : ℕ) → parse s ≡ whole (inst s (I.BxorMulti d n)) len → 9 + 4 * n ≤ length s
unfolding inst read_as size_as
many_held s d n len e =
    let r = shaped s (inst s (I.BxorMulti d n)) len e in
    let count : n ≡ word_at s 5 = sym (length-words s 9 n) ∙ ap (λ (j : Inst). length j.sources) r.is_read ∙ length-words s 9 (word_at s 5) in
    let size : 9 + 4 * word_at s 5 ≡ len = cc r.size in
    omega (arith, r.within)

hint_held : (s : List ℕ) (id d i o len : ℕ) → parse s ≡ whole (inst s (I.Hint id d i o)) len → 17 + 4 * (d + i + o) ≤ length s
unfolding inst read_as size_as
hint_held s id d i o len e =
    let r = shaped s (inst s (I.Hint id d i o)) len e in
    let D = word_at s 5 in
    let J = word_at s (9 + 4 * D) in
    let O = word_at s (13 + 4 * D) in
    let dims : d ≡ D = sym (length-words s 9 d) ∙ ap (λ (j : Inst). length (drop 1 j.numbers)) r.is_read ∙ length-words s 9 D in
    let ins : i ≡ J = sym (length-words s (17 + 4 * d) i) ∙ ap (λ (j : Inst). length j.sources) r.is_read ∙ length-words s (17 + 4 * D) J in
    let outs : o ≡ O = sym (length-words s (17 + 4 * (d + i)) o) ∙ ap (λ (j : Inst). length j.dests) r.is_read ∙ length-words s (17 + 4 * (D + J)) O in
    let size : 17 + 4 * (D + J + O) ≡ len = cc r.size in
    omega (arith, r.within)

pub held_in : (s : List ℕ) (i : Instruction) (len : ℕ) → parse s ≡ whole (inst s i) len → Held i s
held_in s (I.BxorMulti d n) len e = many_held s d n len e
held_in s (I.Hint id d i o) len e = hint_held s id d i o len e
held_in s (I.Band a b c) len q = tt
held_in s (I.Bor a b c) len q = tt
held_in s (I.Bxor a b c) len q = tt
held_in s (I.Select a b c d) len q = tt
held_in s (I.Fax a b c d) len q = tt
held_in s (I.Shift a b c d) len q = tt
held_in s (I.IaddCinCout a b c d e) len q = tt
held_in s (I.IaddCarry a b c) len q = tt
held_in s (I.IsubBinBout a b c d e) len q = tt
held_in s (I.Imul a b c d) len q = tt
held_in s (I.Iadd32CinCout a b c d e) len q = tt
held_in s (I.Iadd32Cout a b c d) len q = tt
held_in s (I.AssertEq a b c) len q = tt
held_in s (I.AssertEqCond a b c d) len q = tt
held_in s (I.AssertZero a b) len q = tt
held_in s (I.AssertNonZero a b) len q = tt
held_in s (I.AssertFalse a b) len q = tt
held_in s (I.AssertTrue a b) len q = tt
