-- `per_wire::slot_per_wire` meets its contract. Assumes nothing.
use Rattle.std.proofs.Common.{◌+◌, ◌<◌, length, sym, ◌∙◌, arith}
use Rattle.scratch.proofs.per_wire.Numbers.{number_none, number_next, number_small, number_as}
use Rattle.scratch.proofs.per_wire.slot_per_wire.Goals as goal
use Rattle.scratch.proofs.per_wire.slot_per_wire.Goals.{then-is_scratch, else-is_scratch}

pub overflow_add-next : goal.overflow_add-next
overflow_add-next c = omega (arith, number_small _ c.loop-wire.slots c.loop-wire.wire c.loop-wire.next c.loop-wire.invariant, c.args.gates.now.few_wires)

pub loop-wire-preserved : goal.loop-wire-preserved
loop-wire-preserved c =
    let l : c.loop-wire.wire < length c.loop-wire.slots = omega arith in
    elim c.if-is_scratch.branch [
      | then-is_scratch w ↦
          number_as c.args.gates.now.marks.now _ _ (c.loop-wire.wire + 1) _ _ w.slots-is w.next-is
          (number_next c.args.gates.now.marks.now c.loop-wire.slots c.loop-wire.wire c.loop-wire.next c.loop-wire-test.true l c.loop-wire.invariant (sym c.is_scratch.ensures ∙ w.if-is_scratch.true))
      | else-is_scratch w ↦
          number_as c.args.gates.now.marks.now _ _ (c.loop-wire.wire + 1) _ _ w.slots-is w.next-is
          (number_none c.args.gates.now.marks.now c.loop-wire.slots c.loop-wire.wire c.loop-wire.next c.loop-wire-test.true l c.loop-wire.invariant (sym c.is_scratch.ensures ∙ w.if-is_scratch.false))
    ]
