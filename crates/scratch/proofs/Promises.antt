-- What document 01 says of scratch slots, about what `pool` answers and leaves. Of an accepted list nothing but its acceptance is used, which
-- Instances.antt meets. Assumes nothing.
use mathlib.Core.Path.{◌≡◌, refl, sym, ap, ap₂, ◌∙◌, subst}
use mathlib.Core.Bool.{Bool, true, false, not, cond, ◌&&◌}
use mathlib.Core.List.{List}
use Prim.Native.Nat.{ℕ, ◌≤◌, ◌<◌}
use native.Mathlib.Nat.{zero-add}
use native.Mathlib.Omega.{arith}
use lib.ListN.{length, get_or}
use lib.Seq.{take-length}
use lib.Dec.{eqb, ltb}
use borrow.Author.Tests.{eqb-true, eq-eqb, not-true, ltb-true, ltb-false}
use Rattle.std.specs.Prelude.{Result, Ok, Err}
use Rattle.refusal.specs.declared.Refusal.{Refusal}
use Rattle.refusal.proofs.Numbers.{number_names_one, number_range}
use Rattle.scratch.specs.declared.Policy.{Policy}
use Rattle.scratch.specs.declared.Policy.TheVariants.{PerWire, Pooled}
use Rattle.scratch.specs.declared.Allocation.{Allocation}
use Rattle.scratch.specs.Gates.{gates_of, scratch, mentioned, among, peak_to, peak}
use Rattle.scratch.specs.Accept.{most_wires, accepted, Broken}
use Rattle.scratch.specs.Policies.{unslotted}
use Rattle.scratch.specs.Answer.{Told, told, slots_of, answer_of, slots_after}
use Rattle.scratch.specs.Assignments.{Apart, slots_to}
use Rattle.scratch.proofs.Count.{count, length-among, count-le, count_below}
use Rattle.scratch.proofs.Cut.{Good, good, small, inside, gates_length}
use Rattle.scratch.proofs.Refusals.{refused, broken}
use Rattle.scratch.proofs.per_wire.Numbers.{per_wire_slot, per_wire-length}
use Rattle.scratch.proofs.pooled.EachGate.{fair, size_is, apart, taken_is}

-- the number, which no refusal shares with an accepted answer, and the values tell the answer, so the contract leaves one
pub told_once : (r s : Result Allocation Refusal) → told r ≡ told s → r ≡ s
told_once (Ok a) (Ok b) e = ap₂ (λ (l p : ℕ). Ok (record { length = l; peak = p })) (ap (λ (t : Told). t.length) e) (ap (λ (t : Told). t.peak) e)
told_once (Ok a) (Err y) e = absurd (omega (arith, number_range y, ap (λ (t : Told). t.number) e))
told_once (Err x) (Ok b) e = absurd (omega (arith, number_range x, ap (λ (t : Told). t.number) e))
told_once (Err x) (Err y) e = ap Err (number_names_one x y (ap (λ (t : Told). t.number) e))

pub answer_once : (wires : ℕ) (ends mentions marks slots : List ℕ) (policy : Policy) (r s : Result Allocation Refusal) → told r ≡ answer_of wires ends mentions marks slots policy → told s ≡ answer_of wires ends mentions marks slots policy → r ≡ s
answer_once wires ends mentions marks slots policy r s p q = told_once r s (p ∙ sym q)

module _ (wires : ℕ) (ends mentions marks slots : List ℕ) (policy : Policy) where
  -- 14 exactly when a clause of its line is broken, and then no slot changes
  pub bad_gates : ((answer_of wires ends mentions marks slots policy).number ≡ 14 → Broken wires ends mentions marks slots)
      × (Broken wires ends mentions marks slots → ((answer_of wires ends mentions marks slots policy).number ≡ 14) × (slots_after wires ends mentions marks slots policy ≡ slots))
  bad_gates = (go (accepted wires ends mentions marks slots) refl, λ f. (let e = refused wires ends mentions marks slots f in (rw e, rw e)))
    where
      go : (b : Bool) → accepted wires ends mentions marks slots ≡ b → (answer_of wires ends mentions marks slots policy).number ≡ 14 → Broken wires ends mentions marks slots
      go true e h = let z : ◌≡◌ {A = ℕ} 0 14 = rw e at h in absurd (omega arith)
      go false e h = broken wires ends mentions marks slots e

module _ (wires : ℕ) (ends mentions marks slots : List ℕ) (yes : accepted wires ends mentions marks slots ≡ true) where
  ok : Good wires ends mentions marks slots
  ok = good wires ends mentions marks slots yes

  -- the slot of a wire
  abbrev pub slot : Policy → ℕ → ℕ
  slot policy w = get_or (slots_after wires ends mentions marks slots policy) w 0

  slots_are : (policy : Policy) → slots_of wires marks (gates_of ends mentions) policy ≡ slots_after wires ends mentions marks slots policy
  slots_are policy = rw yes

  -- both policies answer the peak
  pub peak_answered : (policy : Policy) → ((answer_of wires ends mentions marks slots policy).number ≡ 0) × ((answer_of wires ends mentions marks slots policy).peak ≡ peak wires marks (gates_of ends mentions))
  peak_answered policy = (rw yes, rw yes)

  -- Pooled length equals the peak
  pub length-is-peak : (answer_of wires ends mentions marks slots Pooled).length ≡ (answer_of wires ends mentions marks slots Pooled).peak
  length-is-peak = rw yes (size_is wires (small ok) marks (gates_of ends mentions) (inside ok) (length (gates_of ends mentions)) (omega arith))

  -- two scratch wires whose spans share a gate never share a slot
  pub never_shared : Apart wires marks (gates_of ends mentions) (slot Pooled)
  never_shared = rw yes (apart wires (small ok) marks (gates_of ends mentions) (inside ok))

  -- up to each gate the distinct slots taken so far number the largest count alive at one gate so far
  pub reused : (k : ℕ) → k ≤ length ends → slots_to wires marks (gates_of ends mentions) (slot Pooled) k ≡ peak_to wires marks (gates_of ends mentions) k
  reused k h =
      subst (λ (l : List ℕ). slots_to wires marks (gates_of ends mentions) (λ w. get_or l w 0) k ≡ peak_to wires marks (gates_of ends mentions) k) (slots_are Pooled)
      (taken_is wires (small ok) marks (gates_of ends mentions) (inside ok) k (omega (arith, gates_length 0 ends mentions)))

  -- under Pooled exactly the scratch wires that a gate mentions have a slot, and it is below the length
  slotted : (w : ℕ) → w < wires → eqb (slot Pooled w) unslotted ≡ not (scratch marks w && mentioned (gates_of ends mentions) w)
  slotted w h = rw yes ((fair wires (small ok) marks (gates_of ends mentions) (inside ok) (length (gates_of ends mentions)) (omega arith)).slotted w h ∙ rw take-length)

  pub pooled_unslotted : (w : ℕ) → w < wires
      → (slot Pooled w ≡ unslotted → (scratch marks w && mentioned (gates_of ends mentions) w) ≡ false) × ((scratch marks w && mentioned (gates_of ends mentions) w) ≡ false → slot Pooled w ≡ unslotted)
  pooled_unslotted w h = (λ e. not-true _ (sym (slotted w h) ∙ eq-eqb (slot Pooled w) unslotted e), λ e. eqb-true (slot Pooled w) unslotted (slotted w h ∙ ap not e))

  pub pooled_below : (w : ℕ) → w < wires → (scratch marks w && mentioned (gates_of ends mentions) w) ≡ true → slot Pooled w < (answer_of wires ends mentions marks slots Pooled).length
  pooled_below w h t =
      rw yes ((fair wires (small ok) marks (gates_of ends mentions) (inside ok) (length (gates_of ends mentions)) (omega arith)).under w h (rw take-length t))

  -- PerWire numbers the marked wires in rising order, mentioned or not: the slot of one is how many lie below it
  pub numbered : (w : ℕ) → w < wires → slot PerWire w ≡ cond (scratch marks w) (length (among (scratch marks) 0 w)) unslotted
  numbered w h = rw yes (per_wire_slot 0 marks w (omega (arith, ok.marked)) ∙ rw zero-add)

  numbered_at : (w : ℕ) → w < wires → scratch marks w ≡ true → slot PerWire w ≡ count (scratch marks) 0 w
  numbered_at w h s = numbered w h ∙ rw s (length-among (scratch marks) 0 w)

  pub rising : (w v : ℕ) → w < v → v < wires → scratch marks w ≡ true → scratch marks v ≡ true → slot PerWire w < slot PerWire v
  rising w v l h sw sv = omega (arith, numbered_at w (omega arith) sw, numbered_at v h sv, count_below (scratch marks) w v l sw)

  pub own_slots : (w v : ℕ) → w < wires → v < wires → scratch marks w ≡ true → scratch marks v ≡ true → slot PerWire w ≡ slot PerWire v → w ≡ v
  own_slots w v hw hv sw sv e = go (ltb w v) (ltb v w) refl refl
    where
      go : (a b : Bool) → ltb w v ≡ a → ltb v w ≡ b → w ≡ v
      go true b p q = absurd (omega (arith, rising w v (ltb-true w v p) hv sw sv))
      go false true p q = absurd (omega (arith, rising v w (ltb-true v w q) hw sv sw))
      go false false p q = omega (arith, ltb-false w v p, ltb-false v w q)

  pub per_wire_below : (w : ℕ) → w < wires → scratch marks w ≡ true → slot PerWire w < (answer_of wires ends mentions marks slots PerWire).length
  per_wire_below w h s =
      let l : (answer_of wires ends mentions marks slots PerWire).length ≡ count (scratch marks) 0 wires = rw yes (length-among (scratch marks) 0 wires) in
      omega (arith, numbered_at w h s, count_below (scratch marks) w wires h s)

  pub per_wire_unslotted : (w : ℕ) → w < wires → (slot PerWire w ≡ unslotted → scratch marks w ≡ false) × (scratch marks w ≡ false → slot PerWire w ≡ unslotted)
  per_wire_unslotted w h = (λ e. go (scratch marks w) refl e, λ e. numbered w h ∙ rw e)
    where
      go : (b : Bool) → scratch marks w ≡ b → slot PerWire w ≡ unslotted → scratch marks w ≡ false
      go true s e = absurd (omega (arith, numbered_at w h s, count-le (scratch marks) 0 w, ok.few))
      go false s e = s

  -- one entry for each wire; and neither number passes the count of wires
  pub entries : (policy : Policy) → length (slots_after wires ends mentions marks slots policy) ≡ wires
  entries PerWire = rw yes (per_wire-length 0 marks ∙ ok.marked)
  entries Pooled = rw yes (fair wires (small ok) marks (gates_of ends mentions) (inside ok) (length (gates_of ends mentions)) (omega arith)).len

  pooled_small : (answer_of wires ends mentions marks slots Pooled).length ≤ wires
  pooled_small = rw yes (fair wires (small ok) marks (gates_of ends mentions) (inside ok) (length (gates_of ends mentions)) (omega arith)).small

  pub length_fits : (policy : Policy) → (answer_of wires ends mentions marks slots policy).length ≤ most_wires
  length_fits PerWire =
      let l : (answer_of wires ends mentions marks slots PerWire).length ≡ count (scratch marks) 0 wires = rw yes (length-among (scratch marks) 0 wires) in
      omega (arith, count-le (scratch marks) 0 wires, ok.few)
  length_fits Pooled = omega (arith, pooled_small, ok.few)

  pub peak_fits : (policy : Policy) → (answer_of wires ends mentions marks slots policy).peak ≤ most_wires
  peak_fits policy = omega (arith, pooled_small, length-is-peak, (peak_answered policy).1, (peak_answered Pooled).1, ok.few)
