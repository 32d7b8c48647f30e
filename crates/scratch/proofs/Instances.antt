-- The promises at one list, so that what they take for granted is seen to be met: gates {2,0,2}, {}, {1,3}, {0} over five wires. Wire 1 is not
-- marked, wire 4 is marked and never mentioned. And the gate {0} alone, whose peak is 1. By computation.
use mathlib.Core.Path.{◌≡◌, refl, sym, ◌∙◌}
use mathlib.Core.Bool.{true}
use mathlib.Core.List.{List, [], ◌∷◌}
use Prim.Native.Nat.{ℕ, ◌≤◌, ◌<◌}
use native.Mathlib.Omega.{arith}
use lib.ListN.{length}
use Rattle.scratch.specs.declared.Policy.{Policy}
use Rattle.scratch.specs.declared.Policy.TheVariants.{PerWire, Pooled}
use Rattle.scratch.specs.Gates.{gates_of, alive, peak_to}
use Rattle.scratch.specs.Accept.{accepted, Broken}
use Rattle.scratch.specs.Policies.{unslotted, dying, pooled}
use Rattle.scratch.specs.Answer.{Told, answer_of, slots_after}
use Rattle.scratch.specs.Assignments.{slots_to}
use Rattle.scratch.proofs.Promises.{bad_gates, peak_answered, length-is-peak, slot, never_shared, reused, pooled_unslotted, pooled_below, numbered, rising, own_slots, per_wire_below, per_wire_unslotted, entries, length_fits, peak_fits}

abbrev ends : List ℕ
ends = 3 ∷ 3 ∷ 5 ∷ 6 ∷ []

abbrev mentions : List ℕ
mentions = 2 ∷ 0 ∷ 2 ∷ 1 ∷ 3 ∷ 0 ∷ []

abbrev marks : List ℕ
marks = 1 ∷ 0 ∷ 7 ∷ 1 ∷ 255 ∷ []

abbrev lent : List ℕ
lent = 9 ∷ 9 ∷ 9 ∷ 9 ∷ 9 ∷ []

pub taken : accepted 5 ends mentions marks lent ≡ true
unfolding accepted
taken = refl

abbrev answer : Policy → Told
answer policy = answer_of 5 ends mentions marks lent policy

abbrev slotted : Policy → List ℕ
slotted policy = slots_after 5 ends mentions marks lent policy

-- what comes out
pub pooled_slots : slotted Pooled ≡ 1 ∷ unslotted ∷ 0 ∷ 0 ∷ unslotted ∷ []
unfolding accepted dying pooled
pooled_slots = refl

pub per_wire_slots : slotted PerWire ≡ 0 ∷ unslotted ∷ 1 ∷ 2 ∷ 3 ∷ []
unfolding accepted
per_wire_slots = refl

pub pooled_told : answer Pooled ≡ record { number = 0; length = 2; peak = 2 }
unfolding accepted dying pooled alive peak_to
pooled_told = refl

pub per_wire_told : answer PerWire ≡ record { number = 0; length = 4; peak = 2 }
unfolding accepted alive peak_to
per_wire_told = refl

-- a promise each: the peak; wires 0 and 3, alive at gate 2; the slots up to gate 1; wires 4 and 2; the numbers of PerWire
pub peaks : (answer PerWire).peak ≡ (answer Pooled).length
peaks = (peak_answered 5 ends mentions marks lent taken PerWire).1 ∙ sym (peak_answered 5 ends mentions marks lent taken Pooled).1 ∙ sym (length-is-peak 5 ends mentions marks lent taken)

pub kept_apart : slot 5 ends mentions marks lent taken Pooled 0 ≡ slot 5 ends mentions marks lent taken Pooled 3 → ◌≡◌ {A = ℕ} 0 3
kept_apart = never_shared 5 ends mentions marks lent taken 2 0 3 (omega arith) (omega arith) (omega arith) refl refl

pub two_slots : slots_to 5 marks (gates_of ends mentions) (slot 5 ends mentions marks lent taken Pooled) 1 ≡ 2
unfolding alive peak_to
two_slots = reused 5 ends mentions marks lent taken 1 (omega arith)

pub never_mentioned : slot 5 ends mentions marks lent taken Pooled 4 ≡ unslotted
never_mentioned = (pooled_unslotted 5 ends mentions marks lent taken 4 (omega arith)).1 refl

pub in_the_pool : slot 5 ends mentions marks lent taken Pooled 2 < (answer Pooled).length
in_the_pool = pooled_below 5 ends mentions marks lent taken 2 (omega arith) refl

pub third_marked : slot 5 ends mentions marks lent taken PerWire 3 ≡ 2
third_marked = numbered 5 ends mentions marks lent taken 3 (omega arith)

pub in_order : slot 5 ends mentions marks lent taken PerWire 2 < slot 5 ends mentions marks lent taken PerWire 4
in_order = rising 5 ends mentions marks lent taken 2 4 (omega arith) (omega arith) refl refl

pub its_own : slot 5 ends mentions marks lent taken PerWire 2 ≡ slot 5 ends mentions marks lent taken PerWire 4 → ◌≡◌ {A = ℕ} 2 4
its_own = own_slots 5 ends mentions marks lent taken 2 4 (omega arith) (omega arith) refl refl

pub in_the_segment : slot 5 ends mentions marks lent taken PerWire 4 < (answer PerWire).length
in_the_segment = per_wire_below 5 ends mentions marks lent taken 4 (omega arith) refl

pub not_marked : slot 5 ends mentions marks lent taken PerWire 1 ≡ unslotted
not_marked = (per_wire_unslotted 5 ends mentions marks lent taken 1 (omega arith)).1 refl

pub whole : (policy : Policy) → (length (slotted policy) ≡ 5) × ((answer policy).length ≤ 8192) × ((answer policy).peak ≤ 8192)
whole policy = (entries 5 ends mentions marks lent taken policy, length_fits 5 ends mentions marks lent taken policy, peak_fits 5 ends mentions marks lent taken policy)

-- a gate end that falls: 14, and the lent slots as they were
pub falls : ((answer_of 5 (3 ∷ 2 ∷ 6 ∷ []) mentions marks lent Pooled).number ≡ 14) × (slots_after 5 (3 ∷ 2 ∷ 6 ∷ []) mentions marks lent Pooled ≡ lent)
falls = (bad_gates 5 (3 ∷ 2 ∷ 6 ∷ []) mentions marks lent Pooled).1 (Broken.ends_fall 0 (omega arith) (omega arith))

-- the gate {0} alone
pub lone : answer_of 1 (1 ∷ []) (0 ∷ []) (1 ∷ []) (9 ∷ []) Pooled ≡ record { number = 0; length = 1; peak = 1 }
unfolding accepted dying pooled alive peak_to
lone = refl
