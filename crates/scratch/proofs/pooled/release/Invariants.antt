-- What `pooled::release` keeps as it goes.
use Rattle.std.proofs.Common.{◌-◌}
use Rattle.scratch.specs.Working.{died_at}
use Rattle.scratch.proofs.pooled.Steps.{Releasing}
use Rattle.scratch.proofs.pooled.release.Given as goal

abbrev pub invariant-loop : goal.invariant-loop
invariant-loop l = Releasing l.deaths.link l.slots l.initial.stock (died_at l.deaths l.g) l.stock l.wire (l.end - l.counter)
