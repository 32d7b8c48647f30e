-- `answers::tally::same_bytes` meets its contract: what is left of both decides. Assumes nothing.
use Rattle.std.proofs.Common.{◌-◌}
use Rattle.answers.proofs.Same.{Comparing}
use Rattle.answers.proofs.tally.same_bytes.Given as goal

abbrev pub invariant-loop-at : goal.invariant-loop-at
invariant-loop-at l = Comparing l.one l.other l.from l.to l.at

abbrev pub decreases-loop-at : goal.decreases-loop-at
decreases-loop-at l = l.to - l.at
