-- What `pool` answers, and what it leaves in the lent slots.
use Rattle.std.specs.Prelude.{cond, List, ℕ, length, Result, Ok, Err}
use Rattle.refusal.specs.Number.{number_of}
use Rattle.refusal.specs.declared.Refusal.{Refusal}
use Rattle.refusal.specs.declared.Refusal.TheVariants.{BadGates}
use Rattle.scratch.specs.declared.Policy.{Policy}
use Rattle.scratch.specs.declared.Policy.TheVariants.{PerWire, Pooled}
use Rattle.scratch.specs.declared.Allocation.{Allocation}
use Rattle.scratch.specs.Gates.{gates_of, scratch, among, peak}
use Rattle.scratch.specs.Policies.{pooled, per_wire}
use Rattle.scratch.specs.Accept.{accepted}

-- the number of an answer, 0 where it is accepted and else document 01's, and its values
pub record Told : Type 0 where
  pub number : ℕ
  pub length : ℕ
  pub peak : ℕ

abbrev pub told : Result Allocation Refusal → Told
told (Ok a) = record { number = 0; length = a.length; peak = a.peak }
told (Err r) = record { number = number_of r; length = 0; peak = 0 }

-- of an accepted list: its slots, and how many slots were taken
abbrev pub slots_of : ℕ → List ℕ → List (List ℕ) → Policy → List ℕ
slots_of wires marks gates PerWire = per_wire 0 marks
slots_of wires marks gates Pooled = (pooled wires marks gates (length gates)).slots

abbrev pub length_of : ℕ → List ℕ → List (List ℕ) → Policy → ℕ
length_of wires marks gates PerWire = length (among (scratch marks) 0 wires)
length_of wires marks gates Pooled = (pooled wires marks gates (length gates)).size

-- of any list
abbrev pub answer_of : ℕ → List ℕ → List ℕ → List ℕ → List ℕ → Policy → Told
answer_of wires ends mentions marks slots policy =
    cond (accepted wires ends mentions marks slots)
    (record { number = 0; length = length_of wires marks (gates_of ends mentions) policy; peak = peak wires marks (gates_of ends mentions) })
    (record { number = number_of BadGates; length = 0; peak = 0 })

abbrev pub slots_after : ℕ → List ℕ → List ℕ → List ℕ → List ℕ → Policy → List ℕ
slots_after wires ends mentions marks slots policy = cond (accepted wires ends mentions marks slots) (slots_of wires marks (gates_of ends mentions) policy) slots
