-- `fill::run_loop`'s loop: the program runs along its bytes, an instruction a turn. Assumes nothing.
use Rattle.std.proofs.Common.{◌≡◌, length, ◌-◌}
use Rattle.fill.proofs.Runs.{Along}
use Rattle.fill.proofs.run_loop.Given as goal

abbrev pub invariant-loop-at : goal.invariant-loop-at
invariant-loop-at l = record { cap : l.noting.cap ≡ l.initial.noting.cap; along : Along l.code l.s l.initial.values l.values l.noting l.at l.number }

abbrev pub decreases-loop-at : goal.decreases-loop-at
decreases-loop-at l = length l.code - l.at
