-- Document 01, "Word rules": the four shifts over the width. A word of the width w is a number below 2 ^ bits w. Assumes nothing.
use Rattle.std.specs.Prelude.{ℕ, ◌+◌, ◌*◌, ◌-◌, ◌/◌, ◌%◌, ◌^◌, ℤ}
use Rattle.std.specs.Int.Signed.{shr_z}
use Rattle.std.specs.Int.{Width}
use mir.Val.{bits, to_z, of_z}

-- to the left: the bits that pass the top are dropped
abbrev pub sll : Width → ℕ → ℕ → ℕ
sll w n x = x * 2 ^ n % 2 ^ bits w

-- to the right: the n low bits are dropped
abbrev pub slr : Width → ℕ → ℕ → ℕ
slr w n x = x / 2 ^ n

-- the floor of an integer over a positive number: `floor_is` and `floor_only` of proofs/Floor.antt say that it is the one integer q
-- with q * m ≤ z < (q + 1) * m
abbrev pub floor : ℤ → ℕ → ℤ
floor z m = shr_z z m

-- the word read as two's complement (an i64 at w64, an i32 at w32), over 2 ^ n, rounded towards minus infinity, and read back as a word
unfoldable pub sar : Width → ℕ → ℕ → ℕ
sar w n x = of_z w (floor (to_z w x) (2 ^ n))

-- rotated to the right: the n low bits go to the top, and the others down
unfoldable pub rotr : Width → ℕ → ℕ → ℕ
rotr w n x = x / 2 ^ n + x % 2 ^ n * 2 ^ (bits w - n)
