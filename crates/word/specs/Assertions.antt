-- Document 01, "Assertions and reports": on which words each assertion fails. Assumes nothing.
use Rattle.std.specs.Prelude.{ℕ, Bool, not, ◌&&◌, ◌==◌}
use Rattle.common.specs.Bits.{bit_at}

-- AssertEq: a differs from b
abbrev pub eq_fails : (a b : ℕ) → Bool
eq_fails a b = not (a == b)

-- AssertEqCond: also bit 63 of the condition is 1
abbrev pub eq_cond_fails : (c a b : ℕ) → Bool
eq_cond_fails c a b = bit_at c 63 == 1 && eq_fails a b

-- AssertZero: nonzero
abbrev pub zero_fails : ℕ → Bool
zero_fails v = not (v == 0)

-- AssertNonZero: zero
abbrev pub non_zero_fails : ℕ → Bool
non_zero_fails v = v == 0

-- AssertFalse: bit 63 set
abbrev pub false_fails : ℕ → Bool
false_fails v = bit_at v 63 == 1

-- AssertTrue: bit 63 clear
abbrev pub true_fails : ℕ → Bool
true_fails v = bit_at v 63 == 0
