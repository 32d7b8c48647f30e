-- Laws of a program's instructions: what the first of them is, what is left after it, and that as many turns as bytes are enough. Assumes nothing.
use Prim.Native.Nat.{ℕ, suc, ◌+◌, ◌-◌, ◌≤◌, ◌<◌}
use mathlib.Core.Path.{◌≡◌, refl, sym, ap, ◌∙◌}
use mathlib.Core.List.{List, [], ◌∷◌}
use native.Mathlib.Omega.{arith}
use native.Mathlib.Numerals.{add-one}
use lib.ListN.{length, get_or, take, drop, length-drop}
use lib.Seq.{take_all, drop-drop}
use Rattle.bytecode.specs.Opcode.{shape_of}
use Rattle.bytecode.specs.Instruction.{Inst}
use Rattle.bytecode.specs.Parse.{Parsed, whole, refused, parse}
use Rattle.bytecode.specs.Program.{program_from, program_of, on_whole}
use Rattle.bytecode.proofs.Parses.{whole_read, positive, parse_none}

-- a part that runs to the end
pub part_rest : (s : List ℕ) (at : ℕ) → take (length s - at) (drop at s) ≡ drop at s
part_rest s at = take_all (length s - at) (drop at s) (simp length-drop (omega arith))

-- a whole instruction takes a byte or more, and no more than there are
pub whole_within : (s : List ℕ) (i : Inst) (n : ℕ) → parse s ≡ whole i n → (0 < n) × (n ≤ length s)
whole_within s i n e =
    let r = whole_read s i n e in
    (positive (shape_of (get_or s 0 0)) s n r.size, r.within)

from_none : (k : ℕ) (s : List ℕ) (r at : ℕ) → parse s ≡ refused r at → program_from k s ≡ []
unfolding program_from
from_none ℕ.zero s r at e = refl
from_none (suc k) s r at e = rw e

on_whole_lem : (p : Parsed) (f g : Inst → ℕ → List Inst) → ((i : Inst) (n : ℕ) → p ≡ whole i n → f i n ≡ g i n) → on_whole p f ≡ on_whole p g
on_whole_lem (whole i n) f g h = h i n refl
on_whole_lem (refused r at) f g h = refl

-- turns that are left over change nothing
pub enough : (j k : ℕ) (s : List ℕ) → length s ≤ j → length s ≤ k → program_from j s ≡ program_from k s
unfolding program_from
enough ℕ.zero k s h h' = sym (from_none k s 6 0 (parse_none s (omega arith)))
enough (suc j) ℕ.zero s h h' = from_none (suc j) s 6 0 (parse_none s (omega arith))
enough (suc j) (suc k) s h h' =
    on_whole_lem (parse s) (λ i n. i ∷ program_from j (drop n s)) (λ i n. i ∷ program_from k (drop n s))
    (λ i n e. ap (λ (is : List Inst). i ∷ is) (enough j k (drop n s)
    (omega (arith, whole_within s i n e, length-drop n s)) (omega (arith, whole_within s i n e, length-drop n s))))

-- ---- the two laws that a run through a program rests on

-- bytes that start with a refused instruction hold none
pub program_none : (s : List ℕ) (r at : ℕ) → parse s ≡ refused r at → program_of s ≡ []
unfolding program_of
program_none s r at e = from_none (length s) s r at e

-- a whole instruction is the first, and what is left after its bytes holds the others
pub program_next : (s : List ℕ) (i : Inst) (n : ℕ) → parse s ≡ whole i n → program_of s ≡ i ∷ program_of (drop n s)
unfolding program_of program_from
program_next s i n e = step (length s) refl
  where
    step : (k : ℕ) → length s ≡ k → program_from k s ≡ i ∷ program_from (length (drop n s)) (drop n s)
    step ℕ.zero h = absurd (omega (arith, whole_within s i n e))
    step (suc k) h = rw e (ap (λ (is : List Inst). i ∷ is) (enough k (length (drop n s)) (drop n s) (omega (arith, whole_within s i n e, length-drop n s)) (omega arith)))

pub program_empty : (s : List ℕ) → length s ≡ 0 → program_of s ≡ []
program_empty s e = program_none s 6 0 (parse_none s e)

-- ---- the place in the bytes: instruction n of the program stands at `at`

drop_more : {A : Type 0} (xs : List A) (n : ℕ) (y : A) (ys : List A) → drop n xs ≡ y ∷ ys → drop (suc n) xs ≡ ys
drop_more [] ℕ.zero y ys e = cc
drop_more [] (suc n) y ys e = cc
drop_more (x ∷ xs) ℕ.zero y ys e = cc
drop_more (x ∷ xs) (suc n) y ys e = drop_more xs n y ys e

pub record Along (s : List ℕ) (at n : ℕ) : Type 0 where
  pub inside : at ≤ length s
  pub passed : n ≤ at
  pub number : n ≤ length (program_of s)
  pub rest : program_of (drop at s) ≡ drop n (program_of s)

pub along_start : (s : List ℕ) → Along s 0 0
along_start s = record { inside = omega arith; passed = omega arith; number = omega arith; rest = refl }

-- the next instruction, and the place after it
pub along_more : {s : List ℕ} {at n : ℕ} (i : Inst) (len : ℕ) → Along s at n → parse (drop at s) ≡ whole i len
    → Along s (at + len) (n + 1) × (drop n (program_of s) ≡ i ∷ drop (n + 1) (program_of s))
along_more {s} {at} {n} i len a e =
    let w = whole_within (drop at s) i len e in
    let cons : drop n (program_of s) ≡ i ∷ program_of (drop (at + len) s) =
    sym a.rest ∙ program_next (drop at s) i len e ∙ ap (λ (l : List ℕ). i ∷ program_of l) (drop-drop len at s) in
    let rest : drop (n + 1) (program_of s) ≡ program_of (drop (at + len) s) = rw (add-one n) (drop_more (program_of s) n _ _ cons) in (
      record {
        inside = omega (arith, a.inside, w, length-drop at s);
        passed = omega (arith, a.passed, w);
        number = omega (arith, simp length-drop at (ap length cons));
        rest = sym rest;
      },
      cons ∙ ap (λ (l : List Inst). i ∷ l) (sym rest),
    )

-- where the next is refused, or there are no more bytes, all instructions have been passed
pub along_end : {s : List ℕ} {at n : ℕ} (r o : ℕ) → Along s at n → parse (drop at s) ≡ refused r o → take n (program_of s) ≡ program_of s
along_end {s} {at} {n} r o a e =
    take_all n (program_of s) (omega (arith, simp length-drop at (ap length (sym a.rest ∙ program_none (drop at s) r o e))))
