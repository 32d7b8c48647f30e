-- Document 01, "Word rules": the hints, with what document 02 (E2) has hint 1 answer by zero. Assumes nothing.
use Rattle.std.specs.Prelude.{ℕ, zero, suc, ◌-◌, ◌/◌, ◌%◌, ◌^◌, cond, List, reverse, length, ◌==◌}
use Rattle.common.specs.Bits.{bit_at}

-- hint 1: the quotient and the remainder of a by b; by zero the quotient is all ones and the remainder a
unfoldable pub quotient_of : (a b : ℕ) → ℕ
quotient_of a zero = 2 ^ 64 - 1
quotient_of a (suc b) = a / suc b

unfoldable pub remainder_of : (a b : ℕ) → ℕ
remainder_of a zero = a
remainder_of a (suc b) = a % suc b

-- hint 2: the zeros of x's w bits, counted from the highest bit down to the first 1
unfoldable pub zeros_above : (w x : ℕ) → ℕ
zeros_above zero x = 0
zeros_above (suc w) x = cond (bit_at x w == 0) (suc (zeros_above w x)) 0

-- hint 3: the inputs in reverse order, where there are as many outputs; the outputs as they were elsewhere
abbrev pub mirrored : (inputs outputs : List ℕ) → List ℕ
mirrored inputs outputs = cond (length inputs == length outputs) (reverse inputs) outputs
