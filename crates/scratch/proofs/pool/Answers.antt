-- `pool` meets its contract. Assumes nothing.
use Rattle.std.proofs.Common.{◌∙◌}
use Rattle.scratch.proofs.Answers.{slots_count, shared_answer, per_wire_answer}
use Rattle.scratch.proofs.pool.Goals as goal

pub pool_slots-shared-requires : goal.pool_slots-shared-requires
pool_slots-shared-requires c = slots_count _ _ _ _ _ c.args.policy c.in_ok-gates.gates c.in_ok-gates.ensures

pub slot_per_wire-length-requires : goal.slot_per_wire-length-requires
slot_per_wire-length-requires c = c.pool_slots-shared.auto.slots ∙ slots_count _ _ _ _ _ c.args.policy c.in_ok-gates.gates c.in_ok-gates.ensures

pub returns-in-PerWire : goal.returns-in-PerWire
returns-in-PerWire c = per_wire_answer _ _ _ _ _ _ c.in_ok-gates.gates c.in_ok-gates.ensures _ _ _ c.pool_slots-shared.ensures.peak c.in-PerWire.is c.slot_per_wire-length.ensures.slots c.slot_per_wire-length.ensures.length

pub returns-in-Pooled : goal.returns-in-Pooled
returns-in-Pooled c = shared_answer _ _ _ _ _ _ c.in_ok-gates.gates c.in_ok-gates.ensures _ _ _ c.pool_slots-shared.ensures.peak c.in-Pooled.is c.pool_slots-shared.ensures.slots c.pool_slots-shared.ensures.length
