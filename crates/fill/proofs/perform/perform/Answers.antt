-- `fill::perform::perform` meets its contract: what each arm's row loop does is the step. Assumes nothing.
use Rattle.std.proofs.Common.{rules}
use Rattle.std.specs.Int.Bits.{bit_and, bit_or, bit_xor}
use Rattle.common.specs.Bits.{bit_at}
use Rattle.word.specs.Arithmetic.{sum_word, carry_word, sum_halves, carry_halves, difference_word, borrow_word, high_word, low_word}
use Rattle.word.specs.Bitwise.{fax_word, select_word}
use Rattle.bytecode.specs.Instruction.{inst}
use Rattle.fill.proofs.perform.perform.Goals as goal

pub returns-in-Band : goal.returns-in-Band
unfolding inst
returns-in-Band c = rw c.in-Band.is (c.one_row.ensures (λ x y z. bit_and x y) (search rules))

pub returns-in-Bor : goal.returns-in-Bor
unfolding inst
returns-in-Bor c = rw c.in-Bor.is (c.one_row-in-Bor.ensures (λ x y z. bit_or x y) (search rules))

pub returns-in-Bxor : goal.returns-in-Bxor
unfolding inst
returns-in-Bxor c = rw c.in-Bxor.is (c.one_row-in-Bxor.ensures (λ x y z. bit_xor x y) (search rules))

pub returns-in-Select : goal.returns-in-Select
unfolding inst
returns-in-Select c = rw c.in-Select.is (c.one_row-in-Select.ensures (λ x y z. select_word x y z) (search rules))

pub returns-in-Fax : goal.returns-in-Fax
unfolding inst
returns-in-Fax c = rw c.in-Fax.is (c.one_row-in-Fax.ensures (λ x y z. fax_word x y z) (search rules))

pub returns-in-IaddCarry : goal.returns-in-IaddCarry
unfolding inst
returns-in-IaddCarry c = rw c.in-IaddCarry.is (c.one_row-in-IaddCarry.ensures (λ x y z. carry_word 64 x y 0) (search rules))

pub returns-in-IaddCinCout : goal.returns-in-IaddCinCout
unfolding inst
returns-in-IaddCinCout c = rw c.in-IaddCinCout.is (c.two_rows.ensures (λ x y z. sum_word 64 x y (bit_at z 63)) (λ x y z. carry_word 64 x y (bit_at z 63)) (search rules))

pub returns-in-IsubBinBout : goal.returns-in-IsubBinBout
unfolding inst
returns-in-IsubBinBout c = rw c.in-IsubBinBout.is (c.two_rows-in-IsubBinBout.ensures (λ x y z. difference_word 64 x y (bit_at z 63)) (λ x y z. borrow_word 64 x y (bit_at z 63)) (search rules))

pub returns-in-Imul : goal.returns-in-Imul
unfolding inst
returns-in-Imul c = rw c.in-Imul.is (c.two_rows-in-Imul.ensures (λ x y z. high_word 64 x y) (λ x y z. low_word 64 x y) (search rules))

pub returns-in-Iadd32CinCout : goal.returns-in-Iadd32CinCout
unfolding inst
returns-in-Iadd32CinCout c = rw c.in-Iadd32CinCout.is (c.two_rows-in-Iadd32CinCout.ensures (λ x y z. sum_halves x y z) (λ x y z. carry_halves x y z) (search rules))

pub returns-in-Iadd32Cout : goal.returns-in-Iadd32Cout
unfolding inst
returns-in-Iadd32Cout c = rw c.in-Iadd32Cout.is (c.two_rows-in-Iadd32Cout.ensures (λ x y z. sum_halves x y 0) (λ x y z. carry_halves x y 0) (search rules))
