-- Document 01, "Word rules": Fax, Select and BxorMulti. Band, Bor and Bxor are the logic's own `bit_and`, `bit_or` and `bit_xor`, of which
-- proofs/Rules.antt says what each bit is. Assumes nothing.
use Rattle.std.specs.Prelude.{ℕ, cond, List, [], ◌∷◌, ◌==◌, bit_and, bit_xor}
use Rattle.common.specs.Bits.{bit_at}

-- (a and b) xor c
abbrev pub fax_word : (a b c : ℕ) → ℕ
fax_word a b c = bit_xor (bit_and a b) c

-- t where bit 63 of the condition is 1, and f elsewhere
abbrev pub select_word : (c t f : ℕ) → ℕ
select_word c t f = cond (bit_at c 63 == 1) t f

-- the exclusive-or of the sources, zero where there is none
abbrev pub xor_all : List ℕ → ℕ
xor_all [] = 0
xor_all (x ∷ xs) = bit_xor x (xor_all xs)
