-- What `pooled::allot` keeps as it goes.
use Rattle.scratch.proofs.pooled.Steps.{Allotting}
use Rattle.scratch.proofs.pooled.allot.Given as goal

abbrev pub invariant-loop-wire : goal.invariant-loop-wire
invariant-loop-wire l = Allotting l.gate l.marks l.initial.slots l.initial.stock l.slots l.stock l.wire-index
