-- Document 01, "Word rules": add, subtract and multiply, over the width w; and request E1's additions in halves. Assumes nothing.
use Rattle.std.specs.Prelude.{ℕ, ◌+◌, ◌-◌, ◌*◌, ◌/◌, ◌%◌, ◌^◌, nat_le, nat_lt}
use Rattle.common.specs.Bits.{bit, bit_at, word}
use Rattle.common.specs.Halves.{halves}

-- a + b + c modulo 2 ^ w
unfoldable pub sum_word : (w a b c : ℕ) → ℕ
sum_word w a b c = (a + b + c) % 2 ^ w

-- what the i low bits of a and b, with c, carry into bit i
unfoldable pub carry_into : (a b c i : ℕ) → ℕ
carry_into a b c i = bit (nat_le (2 ^ i) (a % 2 ^ i + b % 2 ^ i + c))

-- bit i is the carry out of bit i, which is the carry into the next
unfoldable pub carry_word : (w a b c : ℕ) → ℕ
unfolding word carry_into
carry_word w a b c = word w (λ i. carry_into a b c (i + 1))

-- each half added on its own, and the carries out of each bit of each half; a half's carry-in is the top bit of the same half of cin
unfoldable pub sum_halves : (a b cin : ℕ) → ℕ
sum_halves a b cin = halves 32 (λ half. sum_word 32 (half a) (half b) (bit_at (half cin) 31))

unfoldable pub carry_halves : (a b cin : ℕ) → ℕ
carry_halves a b cin = halves 32 (λ half. carry_word 32 (half a) (half b) (bit_at (half cin) 31))

-- a - b - c modulo 2 ^ w. 2 ^ w is added first, since a difference of naturals stops at 0, and b + c is at most 2 ^ w
unfoldable pub difference_word : (w a b c : ℕ) → ℕ
difference_word w a b c = (a + 2 ^ w - (b + c)) % 2 ^ w

-- what the i low bits of a lack of those of b, with c, and borrow from bit i
unfoldable pub borrow_from : (a b c i : ℕ) → ℕ
borrow_from a b c i = bit (nat_lt (a % 2 ^ i) (b % 2 ^ i + c))

-- bit i is the borrow out of bit i, which is taken from the next
unfoldable pub borrow_word : (w a b c : ℕ) → ℕ
unfolding word borrow_from
borrow_word w a b c = word w (λ i. borrow_from a b c (i + 1))

-- the high and the low word of the product
unfoldable pub high_word : (w a b : ℕ) → ℕ
high_word w a b = a * b / 2 ^ w

unfoldable pub low_word : (w a b : ℕ) → ℕ
low_word w a b = a * b % 2 ^ w
