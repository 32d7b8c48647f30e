-- One gate of `share`, over what the code holds. Assumes nothing.
use mathlib.Core.Path.{◌≡◌, refl, sym, ap, ◌∙◌, subst}
use mathlib.Core.Bool.{true, ◌&&◌}
use mathlib.Core.List.{List, [], ◌∷◌}
use Prim.Native.Nat.{ℕ, suc, ◌+◌, ◌-◌, ◌≤◌, ◌<◌, max}
use native.Mathlib.Numerals.{add-one}
use native.Mathlib.Omega.{arith}
use lib.ListN.{length, get_or, replicate, length-replicate}
use Rattle.std.specs.Ordering.{ord_max, nat_cmp}
use Rattle.std.proofs.lemmas.Bool.Decides.{nat_tests}
use Rattle.common.specs.Lists.{member}
use Rattle.scratch.specs.declared.deaths.Deaths.{Deaths}
use Rattle.scratch.specs.declared.judge.GateList.{GateList}
use Rattle.scratch.specs.declared.stock.Stock.{Stock}
use Rattle.scratch.specs.Gates.{scratch, last_at, alive, peak_to, peak}
use Rattle.scratch.specs.Policies.{unslotted, Pool, meet_all, give_all, gives, dying, pooled}
use Rattle.scratch.specs.Working.{gates_in, wires_in, pool_of, died_at, Ordered}
use Rattle.scratch.proofs.Cut.{small, inside, gates_length}
use Rattle.scratch.proofs.GateLists.{good_list}
use Rattle.scratch.proofs.deaths.Chains.{among_from}
use Rattle.scratch.proofs.pooled.EachGate.{free_small, living_slots}

-- what `max` answers
pub larger : (a b : ℕ) → ord_max nat_cmp a b ≡ max a b
larger a b = grind (arith, nat_tests)

length_give : (slots free ws : List ℕ) → length (give_all slots free ws) ≡ length free + length ws
length_give slots free [] = omega arith
length_give slots free (w ∷ ws) = omega (arith, length_give slots (get_or slots w 0 ∷ free) ws)

-- before gate g: the pool of the definition, and its peak so far
pub record Running (list : GateList) (slots : List ℕ) (stock : Stock) (most g : ℕ) : Type 0 where
  pub kept : length slots ≡ wires_in list
  pub pool : pool_of slots stock ≡ pooled (wires_in list) list.marks.now (gates_in list) g
  pub sampled : most ≡ peak_to (wires_in list) list.marks.now (gates_in list) g

pub run_start : (list : GateList) (slots : List ℕ) (stock : Stock) → slots ≡ replicate (wires_in list) unslotted → stock.free ≡ [] → stock.size ≡ 0 → Running list slots stock 0 0
unfolding pooled peak_to
run_start list slots stock e f z = record { kept = ap length e ∙ length-replicate {A = ℕ} (wires_in list) unslotted; pool = rw (e, f, z); sampled = refl }

-- at gate g, when its wires have their slots and none is given back
pub record Full (list : GateList) (slots : List ℕ) (stock : Stock) (g : ℕ) : Type 0 where
  pub seen : g < length list.ends.now
  pub kept : length slots ≡ wires_in list
  pub pool : pool_of slots stock ≡ meet_all list.marks.now (pooled (wires_in list) list.marks.now (gates_in list) g) (get_or (gates_in list) g [])

module _ {list : GateList} {slots : List ℕ} {stock : Stock} {most g : ℕ} (r : Running list slots stock most g) where
  -- there are no more slots than wires
  pub few_slots : g ≤ length list.ends.now → stock.size ≤ 8192
  few_slots h =
      let s = free_small (wires_in list) (small (good_list list)) list.marks.now (gates_in list) (inside (good_list list)) g (omega (arith, gates_length 0 list.ends.now list.mentions.now)) in
      omega (arith, s, ap (λ (p : Pool). p.size) r.pool, list.few_wires)

  pub filled : {slots' gate : List ℕ} {stock' : Stock} → g < length list.ends.now → gate ≡ get_or (gates_in list) g [] → length slots' ≡ length slots
      → pool_of slots' stock' ≡ meet_all list.marks.now (pool_of slots stock) gate → Full list slots' stock' g
  filled h e l m =
      record {
        seen = h;
        kept = l ∙ r.kept;
        pool = m ∙ ap (meet_all list.marks.now (pool_of slots stock)) e ∙ ap (λ (p : Pool). meet_all list.marks.now p (get_or (gates_in list) g [])) r.pool;
      }

  pub run_end : length list.ends.now ≤ g → g ≤ length list.ends.now → most ≡ peak (wires_in list) list.marks.now (gates_in list)
  run_end l h =
      let q : g ≡ length (gates_in list) = omega (arith, gates_length 0 list.ends.now list.mentions.now) in
      r.sampled ∙ ap (peak_to (wires_in list) list.marks.now (gates_in list)) q

module _ {list : GateList} {slots : List ℕ} {stock : Stock} {g : ℕ} (f : Full list slots stock g) where
  before_end : g < length (gates_in list)
  before_end = omega (arith, f.seen, gates_length 0 list.ends.now list.mentions.now)

  -- the slots that are not free are those of the living
  pub living : length stock.free + length (alive (wires_in list) list.marks.now (gates_in list) g) ≡ stock.size
  living =
      omega (
        arith,
        ap (λ (p : Pool). length p.free) f.pool,
        ap (λ (p : Pool). p.size) f.pool,
        living_slots (wires_in list) (small (good_list list)) list.marks.now (gates_in list) (inside (good_list list)) g before_end,
      )

  pub sample : {most most' : ℕ} → most ≡ peak_to (wires_in list) list.marks.now (gates_in list) g → most' ≡ max most (stock.size - length stock.free)
      → most' ≡ peak_to (wires_in list) list.marks.now (gates_in list) (g + 1)
  unfolding peak_to
  sample {most} {most'} e s = rw add-one (omega (arith, living))

  module _ (deaths : Deaths) (d : Ordered list deaths) where
    given_back : gives (pool_of slots stock) (died_at deaths g) ≡ pooled (wires_in list) list.marks.now (gates_in list) (suc g)
    unfolding pooled
    given_back =
        ap (λ (p : Pool). gives p (died_at deaths g)) f.pool
        ∙ ap (gives (meet_all list.marks.now (pooled (wires_in list) list.marks.now (gates_in list) g) (get_or (gates_in list) g []))) (d g f.seen)

    -- what was taken has room for all that is given back
    pub stock_room : length stock.free + length (died_at deaths g) ≤ 8192
    stock_room =
        let r = free_small (wires_in list) (small (good_list list)) list.marks.now (gates_in list) (inside (good_list list)) (suc g) before_end in
        omega (arith, r, list.few_wires, ap (λ (p : Pool). length p.free) given_back, length_give slots stock.free (died_at deaths g))

    dying_inside : (x : ℕ) → member x (dying (wires_in list) list.marks.now (gates_in list) g) ≡ true → x < wires_in list
    unfolding dying
    dying_inside x m = omega (arith, among_from (λ w. scratch list.marks.now w && last_at (gates_in list) g w) 0 (wires_in list) x m)

    pub dead_slotted : (x : ℕ) → member x (died_at deaths g) ≡ true → x < length slots
    dead_slotted x t = omega (arith, dying_inside x (subst (λ (l : List ℕ). member x l ≡ true) (d g f.seen) t), f.kept)

    pub run_next : {stock' : Stock} {most : ℕ} → pool_of slots stock' ≡ gives (pool_of slots stock) (died_at deaths g)
        → most ≡ peak_to (wires_in list) list.marks.now (gates_in list) (g + 1) → Running list slots stock' most (g + 1)
    run_next p m =
        record { kept = f.kept; pool = p ∙ given_back ∙ ap (pooled (wires_in list) list.marks.now (gates_in list)) (sym (add-one g)); sampled = m }
