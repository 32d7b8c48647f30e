-- From what the parts leave to what `pool` promises. Assumes nothing.
use mathlib.Core.Path.{◌≡◌, sym, ap, ◌∙◌}
use mathlib.Core.Bool.{true, false}
use mathlib.Core.List.{List}
use Prim.Native.Nat.{ℕ}
use lib.ListN.{length}
use Rattle.std.specs.Prelude.{Ok, Err}
use Rattle.refusal.specs.declared.Refusal.TheVariants.{BadGates}
use Rattle.scratch.specs.declared.Policy.{Policy}
use Rattle.scratch.specs.declared.Policy.TheVariants.{PerWire, Pooled}
use Rattle.scratch.specs.declared.judge.GateList.{GateList}
use Rattle.scratch.specs.Gates.{gates_of, scratch, among, peak}
use Rattle.scratch.specs.Policies.{Pool, pooled, per_wire}
use Rattle.scratch.specs.Accept.{accepted}
use Rattle.scratch.specs.Answer.{told, answer_of, slots_after, slots_of, length_of}
use Rattle.scratch.specs.Working.{gates_in, wires_in}
use Rattle.scratch.proofs.Cut.{good, gates_length}

-- a list that is not accepted
pub refused_answer : (wires : ℕ) (ends mentions marks slots : List ℕ) (policy : Policy) → accepted wires ends mentions marks slots ≡ false
    → (told (Err BadGates) ≡ answer_of wires ends mentions marks slots policy) × (slots ≡ slots_after wires ends mentions marks slots policy)
refused_answer wires ends mentions marks slots policy e = (rw e, rw e)

module _ (wires : ℕ) (ends mentions marks slots : List ℕ) (policy : Policy) (list : GateList)
    (e : (accepted wires ends mentions marks slots ≡ true) × (list.ends.now ≡ ends) × (list.mentions.now ≡ mentions) × (list.marks.now ≡ marks)) where
  -- an accepted list, whose marks say how many wires there are
  wires_are : wires_in list ≡ wires
  wires_are = ap length e.3 ∙ (good wires ends mentions marks slots e.0).marked

  pub slots_count : length slots ≡ wires_in list
  slots_count = (good wires ends mentions marks slots e.0).slotted ∙ sym wires_are

  module _ (slots' : List ℕ) (len most : ℕ) (hp : most ≡ peak (wires_in list) list.marks.now (gates_in list)) where
    answered : len ≡ length_of wires marks (gates_of ends mentions) policy → slots' ≡ slots_of wires marks (gates_of ends mentions) policy
        → (told (Ok (record { length = len; peak = most })) ≡ answer_of wires ends mentions marks slots policy) × (slots' ≡ slots_after wires ends mentions marks slots policy)
    answered hl hs = let p : most ≡ peak wires marks (gates_of ends mentions) = rw (wires_are, e.1, e.2, e.3) at hp in (rw (e.0, hl, p), rw e.0 hs)

    pub shared_answer : policy ≡ Pooled → slots' ≡ (pooled (wires_in list) list.marks.now (gates_in list) (length list.ends.now)).slots → len ≡ (pooled (wires_in list) list.marks.now (gates_in list) (length list.ends.now)).size
        → (told (Ok (record { length = len; peak = most })) ≡ answer_of wires ends mentions marks slots policy) × (slots' ≡ slots_after wires ends mentions marks slots policy)
    shared_answer q hs hl = answered (rw q (hl ∙ ap (λ (p : Pool). p.size) same)) (rw q (hs ∙ ap (λ (p : Pool). p.slots) same))
      where
        same : pooled (wires_in list) list.marks.now (gates_in list) (length list.ends.now) ≡ pooled wires marks (gates_of ends mentions) (length (gates_of ends mentions))
        same = rw (wires_are, e.1, e.2, e.3, gates_length 0 ends mentions)

    pub per_wire_answer : policy ≡ PerWire → slots' ≡ per_wire 0 list.marks.now → len ≡ length (among (scratch list.marks.now) 0 (wires_in list))
        → (told (Ok (record { length = len; peak = most })) ≡ answer_of wires ends mentions marks slots policy) × (slots' ≡ slots_after wires ends mentions marks slots policy)
    per_wire_answer q hs hl = answered (rw (q, ← wires_are, ← e.3) hl) (rw (q, ← e.3) hs)
