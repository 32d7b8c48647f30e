-- Laws of a word's two halves, over the width of a half. Assumes nothing.
use mathlib.Core.Path.{◌≡◌}
use Prim.Native.Nat.{ℕ, ◌/◌, ◌%◌, ◌^◌, ◌<◌}
use lib.Pow.{high, low}
use Rattle.common.specs.Halves.{halves}

-- each half of the answer is f's of its own half
pub halves_high : (w : ℕ) (f : (ℕ → ℕ) → ℕ) → f (λ x. x % 2 ^ w) < 2 ^ w → halves w f / 2 ^ w ≡ f (λ x. x / 2 ^ w)
unfolding halves
halves_high w f h = high (f (λ x. x / 2 ^ w)) w h

pub halves_low : (w : ℕ) (f : (ℕ → ℕ) → ℕ) → f (λ x. x % 2 ^ w) < 2 ^ w → halves w f % 2 ^ w ≡ f (λ x. x % 2 ^ w)
unfolding halves
halves_low w f h = low (f (λ x. x / 2 ^ w)) w h
