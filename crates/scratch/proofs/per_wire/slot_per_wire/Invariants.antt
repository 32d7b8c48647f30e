-- What `per_wire::slot_per_wire` keeps as it goes.
use Rattle.scratch.proofs.per_wire.Numbers.{Numbered}
use Rattle.scratch.proofs.per_wire.slot_per_wire.Given as goal

abbrev pub invariant-loop-wire : goal.invariant-loop-wire
invariant-loop-wire l = Numbered l.gates.marks.now l.slots l.wire l.next
