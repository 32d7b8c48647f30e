-- `word::arithmetic::sum` meets its contract: the law of the sum by two wrapping steps, at its width. Assumes nothing.
use Rattle.std.proofs.Common.{refl}
use Rattle.word.proofs.Adder.{sum_by_steps}
use Rattle.word.proofs.arithmetic.sum.Goals as goal

pub returns : goal.returns
returns c = sum_by_steps 63 c.args.a c.args.b c.args.cin _ c.ranges.cin.fits refl
