-- `fill::perform::divide` meets its contract: what the row loop does is the step. Assumes nothing.
use Rattle.std.proofs.Common.{rules}
use Rattle.word.specs.Hints.{quotient_of, remainder_of}
use Rattle.bytecode.specs.Instruction.{inst}
use Rattle.fill.proofs.perform.divide.Goals as goal

pub returns : goal.returns
unfolding inst
returns c =
    rw (c.word-a.ensures, c.word-b.ensures, c.word-q.ensures, c.word-m.ensures) at
    (c.two_rows.ensures (λ x y z. quotient_of x y) (λ x y z. remainder_of x y) (search rules))
