-- `word::hints::leading_zeros` meets its contract: the machine's count is ours. Assumes nothing.
use Rattle.std.proofs.Common.{◌≡◌, ℕ, zero, suc, ◌+◌, ◌*◌, ◌%◌, ◌^◌, ◌<◌, ◌≤◌, cond, eqb, sym, refl, ap, ◌∙◌, mod-lt, pow-suc, one-add, arith, pow_pos}
use lib.Pow.{split}
use lib.Count.{count_leading_zeros, leading_unique}
use Rattle.common.specs.Bits.{bit_at}
use Rattle.word.specs.Hints.{zeros_above}
use Rattle.common.proofs.Digits.{bit_at_lt, top_bit}
use Rattle.word.proofs.hints.leading_zeros.Goals as goal

-- x has m bits, and the rest of the w are zeros
Length : (w x n : ℕ) → Type 0
Length w x n = (m : ℕ) × (n + m ≡ w) × (x < 2 ^ m) × (2 ^ m ≤ 2 * x + 1)

length : (w x : ℕ) → x < 2 ^ w → Length w x (zeros_above w x)
unfolding Length zeros_above
length zero x h = (0, refl, h, omega arith)
length (suc w) x h = by (length w x) (bit_at x w) refl (bit_at_lt x w)
  where
    low : x % 2 ^ w < 2 ^ w
    low = mod-lt x (pow_pos w)

    parts : (d : ℕ) → bit_at x w ≡ d → x ≡ d * 2 ^ w + x % 2 ^ w
    parts d e = sym (split x w) ∙ ap (λ (n : ℕ). n * 2 ^ w + x % 2 ^ w) (sym (top_bit w x (rw one-add h)) ∙ e)

    by : (x < 2 ^ w → Length w x (zeros_above w x)) → (d : ℕ) → bit_at x w ≡ d → d < 2 → Length (suc w) x (cond (eqb d 0) (suc (zeros_above w x)) 0)
    by f zero e l = let r = f (omega (arith, parts 0 e, low)) in (r.0, omega (arith, r.1), r.2, r.3)
    by f (suc zero) e l = (suc w, omega arith, h, omega (arith, parts 1 e, low, pow-suc 2 w))
    by f (suc (suc d)) e l = absurd (omega arith)

counted : (w x : ℕ) → x < 2 ^ w → zeros_above w x ≡ count_leading_zeros w x
unfolding Length
counted w x h = let l = length w x h in leading_unique w x (zeros_above w x) l.0 l.1 l.2 l.3

pub returns : goal.returns
returns c = sym (counted 64 c.args.x c.ranges.x.fits)
