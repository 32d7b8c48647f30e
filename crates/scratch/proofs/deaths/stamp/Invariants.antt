-- What `deaths::stamp` keeps as it goes.
use Rattle.scratch.proofs.deaths.Stamps.{Stamping}
use Rattle.scratch.proofs.deaths.stamp.Given as goal

abbrev pub invariant-loop-wire : goal.invariant-loop-wire
invariant-loop-wire l = Stamping l.gate l.initial.last l.g l.last l.wire-index
