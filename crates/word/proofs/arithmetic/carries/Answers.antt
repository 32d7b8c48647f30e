-- `word::arithmetic::carries` meets its contract: each turn adds the carry out of one bit more. Assumes nothing.
use Rattle.std.proofs.Common.{◌≡◌, ℕ, ◌+◌, ◌*◌, ◌/◌, ◌%◌, ◌^◌, ◌<◌, refl, ap, ◌∙◌, ap₂, arith}
use lib.Bits.{bit_or}
use Rattle.common.specs.Bits.{bit_at, word}
use Rattle.common.proofs.Digits.{bit_at_lt, top_bit}
use Rattle.word.specs.Arithmetic.{carry_into, carry_word}
use Rattle.word.proofs.Adder.{carry_first, carry_next, carry_up, place_fits, place_up, word_next}
use Rattle.word.proofs.arithmetic.carries.Goals as goal

-- before bit 0: c, and no carries
pub loop-init : goal.loop-init
unfolding carry_word word
loop-init c =
    let k = bit_at c.args.cin 63 in
    let digit : k < 2 = bit_at_lt c.args.cin 63 in
    let first : carry_into c.args.a c.args.b k 0 ≡ k = carry_first c.args.a c.args.b k digit in
    let top : k ≡ c.args.cin / 2 ^ 63 = top_bit 63 c.args.cin c.ranges.cin.fits in
    record { word = refl; place = refl; below = omega arith }

pub loop-preserved : goal.loop-preserved
loop-preserved c =
    let a = c.args.a in
    let b = c.args.b in
    let k = bit_at c.args.cin 63 in
    let i = c.loop.counter in
    let h : i < 64 = omega arith in
    let known = c.loop.invariant in
    let next = carry_next 64 a b k i c.loop.place c.loop.below (bit_at_lt c.args.cin 63) h known.place known.below in
    record {
      word = ap₂ bit_or known.word next ∙ word_next a b k i;
      place = ap (λ (n : ℕ). n * 2 % 2 ^ 64) (known.place ∙ place_fits 64 i h) ∙ ap (λ (n : ℕ). n % 2 ^ 64) (place_up i);
      below = ap (λ (n : ℕ). n * 2 % 2 ^ 64) next ∙ ap (λ (n : ℕ). n % 2 ^ 64) (carry_up (carry_into a b k (i + 1)) i);
    }

pub returns : goal.returns
returns c =
    let done : c.loop.counter ≡ 64 = omega arith in
    c.loop.invariant.word ∙ ap (λ (n : ℕ). carry_word n c.args.a c.args.b (bit_at c.args.cin 63)) done
