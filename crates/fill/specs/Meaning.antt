-- The meaning of a program, on one column: document 01, "Word rules" and "Assertions and reports". It knows of no width, stripe or cap. Assumes nothing.
use Rattle.std.specs.Prelude.{ℕ, suc, Bool, cond, List, [], ◌∷◌, ◌++◌, map, reverse, get_or, eqb}
use Rattle.std.specs.Int.Bits.{bit_and, bit_or, bit_xor}
use Rattle.common.specs.Bits.{bit_at}
use Rattle.word.specs.Arithmetic.{sum_word, carry_word, sum_halves, carry_halves, difference_word, borrow_word, high_word, low_word}
use Rattle.word.specs.Bitwise.{fax_word, select_word, xor_all}
use Rattle.word.specs.Hints.{quotient_of, remainder_of, zeros_above}
use Rattle.word.specs.Assertions.{eq_fails, eq_cond_fails, zero_fails, non_zero_fails, false_fails, true_fails}
use Rattle.shift.specs.Variant.{shift_word, variant_of}
use Rattle.bytecode.specs.Instruction.{Inst}
use Rattle.report.specs.Records.{packed}
use Rattle.report.specs.declared.record.Failure.{Failure}
use Rattle.rows.specs.Column.{Col, stores}

-- ---- what an instruction makes of its sources' words

-- word k of a list
abbrev pub nth : List ℕ → ℕ → ℕ
nth ws k = get_or ws k 0

-- for a code, the words made of an instruction's numbers and of its sources' words, in the order of its destinations
pub record Rule : Type 0 where
  pub code : ℕ
  pub makes : List ℕ → List ℕ → List ℕ

abbrev pub rule : ℕ → (List ℕ → List ℕ → List ℕ) → Rule
rule c f = record { code = c; makes = f }

-- by the first rule for the code; without one there is no word
abbrev pub made : List Rule → ℕ → List ℕ → List ℕ → List ℕ
made [] code ns ws = []
made (r ∷ rs) code ns ws = cond (eqb code r.code) (r.makes ns ws) (made rs code ns ws)

-- the hints by id, which is the first of a hint's numbers
abbrev pub hints : List Rule
hints =
    rule 1 (λ ns ws. quotient_of (nth ws 0) (nth ws 1) ∷ remainder_of (nth ws 0) (nth ws 1) ∷ []) ∷
    rule 2 (λ ns ws. zeros_above 64 (nth ws 0) ∷ []) ∷
    rule 3 (λ ns ws. reverse ws) ∷
    []

-- the opcodes; the carry-in and the borrow-in are bit 63 of their word, and by halves the top bit of each half; a word of 0 carries nothing in
abbrev pub opcodes : List Rule
opcodes =
    rule 0x01 (λ ns ws. bit_and (nth ws 0) (nth ws 1) ∷ []) ∷  -- Band
    rule 0x02 (λ ns ws. bit_or (nth ws 0) (nth ws 1) ∷ []) ∷  -- Bor
    rule 0x03 (λ ns ws. bit_xor (nth ws 0) (nth ws 1) ∷ []) ∷  -- Bxor
    rule 0x05 (λ ns ws. select_word (nth ws 0) (nth ws 1) (nth ws 2) ∷ []) ∷  -- Select
    rule 0x06 (λ ns ws. xor_all ws ∷ []) ∷  -- BxorMulti
    rule 0x07 (λ ns ws. fax_word (nth ws 0) (nth ws 1) (nth ws 2) ∷ []) ∷  -- Fax
    rule 0x10 (λ ns ws. shift_word (variant_of (nth ns 0)) (nth ns 1) (nth ws 0) ∷ []) ∷  -- Shift
    rule 0x21 (λ ns ws. sum_word 64 (nth ws 0) (nth ws 1) (bit_at (nth ws 2) 63) ∷ carry_word 64 (nth ws 0) (nth ws 1) (bit_at (nth ws 2) 63) ∷ []) ∷  -- IaddCinCout
    rule 0x22 (λ ns ws. carry_word 64 (nth ws 0) (nth ws 1) 0 ∷ []) ∷  -- IaddCarry
    rule 0x23 (λ ns ws. difference_word 64 (nth ws 0) (nth ws 1) (bit_at (nth ws 2) 63) ∷ borrow_word 64 (nth ws 0) (nth ws 1) (bit_at (nth ws 2) 63) ∷ []) ∷  -- IsubBinBout
    rule 0x30 (λ ns ws. high_word 64 (nth ws 0) (nth ws 1) ∷ low_word 64 (nth ws 0) (nth ws 1) ∷ []) ∷  -- Imul
    rule 0x40 (λ ns ws. sum_halves (nth ws 0) (nth ws 1) (nth ws 2) ∷ carry_halves (nth ws 0) (nth ws 1) (nth ws 2) ∷ []) ∷  -- Iadd32CinCout
    rule 0x46 (λ ns ws. sum_halves (nth ws 0) (nth ws 1) 0 ∷ carry_halves (nth ws 0) (nth ws 1) 0 ∷ []) ∷  -- Iadd32Cout
    rule 0x80 (λ ns ws. made hints (nth ns 0) ns ws) ∷  -- Hint
    []

-- ---- a column's run

-- the words of the sources are read, and then the destinations written
abbrev pub step : Inst → Col → Col
step i col = stores i.dests (made opcodes i.op i.numbers (map col i.sources)) col

unfoldable pub run_col : List Inst → Col → Col
run_col [] col = col
run_col (i ∷ is) col = run_col is (step i col)

-- ---- the violations of a column

-- an assertion: when it fails, and the two words of its message
pub record Assertion : Type 0 where
  pub code : ℕ
  pub fails : List ℕ → Bool
  pub one : List ℕ → ℕ
  pub two : List ℕ → ℕ

abbrev pub assertion : ℕ → (List ℕ → Bool) → (List ℕ → ℕ) → (List ℕ → ℕ) → Assertion
assertion c f a b = record { code = c; fails = f; one = a; two = b }

-- the message is a and b, or v and 0
abbrev pub assertions : List Assertion
assertions =
    assertion 0x60 (λ ws. eq_fails (nth ws 0) (nth ws 1)) (λ ws. nth ws 0) (λ ws. nth ws 1) ∷  -- AssertEq
    assertion 0x61 (λ ws. eq_cond_fails (nth ws 0) (nth ws 1) (nth ws 2)) (λ ws. nth ws 1) (λ ws. nth ws 2) ∷  -- AssertEqCond
    assertion 0x62 (λ ws. zero_fails (nth ws 0)) (λ ws. nth ws 0) (λ ws. 0) ∷  -- AssertZero
    assertion 0x63 (λ ws. non_zero_fails (nth ws 0)) (λ ws. nth ws 0) (λ ws. 0) ∷  -- AssertNonZero
    assertion 0x64 (λ ws. false_fails (nth ws 0)) (λ ws. nth ws 0) (λ ws. 0) ∷  -- AssertFalse
    assertion 0x65 (λ ws. true_fails (nth ws 0)) (λ ws. nth ws 0) (λ ws. 0) ∷  -- AssertTrue
    []

-- the record of a failed assertion: its opcode, the instruction's number, its path spec, and the message
abbrev pub told : Assertion → ℕ → List ℕ → List ℕ → Failure
told a n ns ws = record { head = packed a.code n (nth ns 0); one = a.one ws; two = a.two ws }

-- the records of instruction n: one where it is an assertion that fails, else none
abbrev pub failed : List Assertion → ℕ → ℕ → List ℕ → List ℕ → List Failure
failed [] code n ns ws = []
failed (a ∷ others) code n ns ws = cond (eqb code a.code) (cond (a.fails ws) (told a n ns ws ∷ []) []) (failed others code n ns ws)

abbrev pub noted : ℕ → Inst → Col → List Failure
noted n i col = failed assertions i.op n i.numbers (map col i.sources)

-- in program order, the first instruction having number n; execution goes on after a failure
unfoldable pub violations_from : ℕ → List Inst → Col → List Failure
violations_from n [] col = []
violations_from n (i ∷ is) col = noted n i col ++ violations_from (suc n) is (step i col)

abbrev pub violations : List Inst → Col → List Failure
violations is col = violations_from 0 is col
