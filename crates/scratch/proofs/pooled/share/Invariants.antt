-- What `pooled::share` keeps as it goes.
use Rattle.scratch.proofs.pooled.Runs.{Running}
use Rattle.scratch.proofs.pooled.share.Given as goal

abbrev pub invariant-loop-g : goal.invariant-loop-g
invariant-loop-g l = Running l.gates l.slots l.stock l.peak l.g
