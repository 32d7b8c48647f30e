-- `word::assertions::true_fails` meets its contract. Assumes nothing.
use Rattle.std.proofs.Common.{◌≡◌, not, eqb, refl, ap, ◌∙◌}
use Rattle.common.specs.Bits.{bit_at}
use Rattle.common.proofs.Digits.{digit, bit_at_lt}
use Rattle.word.proofs.assertions.true_fails.Goals as goal

pub returns : goal.returns
returns c = ap not c.is_msb_true.ensures ∙ digit (λ n. not (eqb n 1) ≡ eqb n 0) refl refl (bit_at c.args.v 63) (bit_at_lt c.args.v 63)
