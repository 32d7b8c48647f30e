-- A number by its binary digits. Assumes nothing.
use Rattle.std.specs.Prelude.{ℕ, zero, suc, ◌+◌, ◌*◌, ◌/◌, ◌%◌, ◌^◌, Bool, true, false}

-- 1 where a test holds, and 0 where it does not
abbrev pub bit : Bool → ℕ
bit true = 1
bit false = 0

-- bit i of x
unfoldable pub bit_at : ℕ → ℕ → ℕ
bit_at x i = x / 2 ^ i % 2

-- the word of w bits whose bit i is f i
unfoldable pub word : ℕ → (ℕ → ℕ) → ℕ
word zero f = 0
word (suc w) f = word w f + f w * 2 ^ w
