-- What is wrong with an instruction, by its bytes. Assumes nothing.
use Prim.Native.Nat.{ℕ, suc, ◌+◌, ◌*◌}
use mathlib.Core.Path.{◌≡◌, refl}
use mathlib.Core.List.{List}
use mathlib.Core.Bool.{false, not}
use native.Mathlib.Omega.{arith}
use borrow.Author.Tests.{ne_eqb}
use lib.ListN.{get_or}
use Rattle.refusal.specs.declared.Refusal.TheVariants as R
use Rattle.bytecode.specs.Opcode.{shape_of}
use Rattle.bytecode.specs.Working.{places_as}
use Rattle.bytecode.specs.Layout.{word_at, words}
use Rattle.bytecode.specs.Parse.{read_as, read}
use Rattle.bytecode.proofs.Tables.{settle}
use Rattle.bytecode.proofs.Words.{length-words}
use Rattle.bytecode.proofs.Parses.{op_of, dests_of, sources_of}
use Rattle.accept.specs.Check.{refuse, shift_bad_amount, bad_hint, bad_register, hint_listed, judged}
use Rattle.accept.specs.Working.{amount_over, listed_by, judged_registers}

pub amount_of : (op : ℕ) (s : List ℕ) → shift_bad_amount (read_as (shape_of op) op s) ≡ amount_over op (get_or s 9 0) (get_or s 10 0)
unfolding shift_bad_amount read_as
amount_of op s = settle op 0x10 (λ e. rw e) (λ n. rw (op_of (shape_of op) op s, ne_eqb op 0x10 n))

-- the list of dimensions by their count and the first of them
pub listed_by_lem : (id : ℕ) (s : List ℕ) (at d ins outs : ℕ) → hint_listed id (words s at d) ins outs ≡ listed_by id d (word_at s at) ins outs
listed_by_lem id s at ℕ.zero ins outs = refl
listed_by_lem id s at (suc ℕ.zero) ins outs = refl
listed_by_lem id s at (suc (suc d)) ins outs = rw (ne_eqb (suc (suc d)) 0 (λ e. omega arith), ne_eqb (suc (suc d)) 1 (λ e. omega arith))

pub hint_of_lem : (op : ℕ) (s : List ℕ) → op ≡ 0x80
    → bad_hint (read_as (shape_of op) op s)
    ≡ not (listed_by (word_at s 1) (word_at s 5) (word_at s 9) (word_at s (9 + 4 * word_at s 5)) (word_at s (13 + 4 * word_at s 5)))
unfolding bad_hint read_as
hint_of_lem op s e = rw e (rw (length-words, length-words, listed_by_lem))

pub no_hint : (op : ℕ) (s : List ℕ) → (op ≡ 0x80 → ⊥) → bad_hint (read_as (shape_of op) op s) ≡ false
unfolding bad_hint
no_hint op s n = rw (op_of (shape_of op) op s, ne_eqb op 0x80 n)

-- 7 to 10 of the instruction at the start of the bytes, by the bytes
pub judged_read : (rows : ℕ) (s : List ℕ)
    → judged rows (read s)
    ≡ refuse (amount_over (get_or s 0 0) (get_or s 9 0) (get_or s 10 0)) R.BadShift
    (refuse (bad_hint (read s)) R.BadHint
    (judged_registers rows (words s (places_as (shape_of (get_or s 0 0)) s).to (places_as (shape_of (get_or s 0 0)) s).dests)
    (words s (places_as (shape_of (get_or s 0 0)) s).from (places_as (shape_of (get_or s 0 0)) s).sources)))
unfolding judged bad_register judged_registers
judged_read rows s =
    let op = get_or s 0 0 in
    rw (amount_of op s, dests_of (shape_of op) op s, sources_of (shape_of op) op s)
