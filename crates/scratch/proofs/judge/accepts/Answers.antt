-- `judge::accepts` meets its contract. Assumes nothing.
use Rattle.std.proofs.Common.{arith}
use Rattle.std.proofs.lemmas.Bool.Decides.{nat_tests}
use Rattle.scratch.specs.Accept.{accepted}
use Rattle.scratch.proofs.judge.accepts.Goals as goal

pub returns-then-marks-wires : goal.returns-then-marks-wires
unfolding accepted
returns-then-marks-wires c = grind (arith, nat_tests)

pub returns-else-marks-wires : goal.returns-else-marks-wires
unfolding accepted
returns-else-marks-wires c = grind (arith, nat_tests)
