-- Numbers as the lists spell them: hexadecimal digits in lower case, the most significant first. Assumes nothing.
use Rattle.std.specs.Prelude.{ℕ, ◌+◌, ◌-◌, ◌*◌, ◌%◌, ◌^◌, cond, List, [], ◌∷◌, nat_lt}

-- the value of a digit; 0 for a byte that is none
abbrev pub digit_of : ℕ → ℕ
digit_of byte = cond (nat_lt byte 48) 0 (cond (nat_lt byte 58) (byte - 48) (cond (nat_lt byte 97) 0 (cond (nat_lt byte 103) (byte - 87) 0)))

-- the number that was spelled so far, with these digits after it; of more than sixteen digits the last sixteen count
unfoldable pub spelled : ℕ → List ℕ → ℕ
spelled n [] = n
spelled n (byte ∷ bytes) = spelled ((n * 16 + digit_of byte) % 2 ^ 64) bytes
