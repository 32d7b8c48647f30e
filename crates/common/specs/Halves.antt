-- The two halves of a word. Assumes nothing.
use Rattle.std.specs.Prelude.{ℕ, ◌+◌, ◌*◌, ◌/◌, ◌%◌, ◌^◌}

-- The word of two halves of w bits, each worked out by f from the same half of f's words: f is told how a word's half is taken,
-- first the high one and then the low one.
unfoldable pub halves : (w : ℕ) → ((ℕ → ℕ) → ℕ) → ℕ
halves w f = f (λ x. x / 2 ^ w) * 2 ^ w + f (λ x. x % 2 ^ w)
