-- `fill::perform::leading_zeros` meets its contract: what the row loop does is the step. Assumes nothing.
use Rattle.std.proofs.Common.{rules}
use Rattle.word.specs.Hints.{zeros_above}
use Rattle.bytecode.specs.Instruction.{inst}
use Rattle.fill.proofs.perform.leading_zeros.Goals as goal

pub returns : goal.returns
unfolding inst
returns c = rw (c.word-a.ensures, c.word-d.ensures) at (c.one_row.ensures (λ x y z. zeros_above 64 x) (search rules))
