-- Document 01, "Scratch slots": the slots of an accepted gate list, under Pooled and under PerWire.
use Rattle.std.specs.Prelude.{cond, ◌&&◌, List, [], ◌∷◌, get_or, set, eqb}
use Prim.Native.Nat.{ℕ, zero, suc}
use Rattle.std.proofs.Math.ListN.{replicate}
use Rattle.scratch.specs.Gates.{scratch, among, last_at}

-- what a wire without a slot reads
abbrev pub unslotted : ℕ
unslotted = 4294967295

-- the slot of each wire; the slots given back, the last one first; how many slots were ever taken
pub record Pool : Type 0 where
  pub slots : List ℕ
  pub free : List ℕ
  pub size : ℕ

-- w takes the slot last given back, else a new one
abbrev pub takes : List ℕ → List ℕ → ℕ → ℕ → Pool
takes slots [] size w = record { slots = set slots w size; free = []; size = suc size }
takes slots (s ∷ free) size w = record { slots = set slots w s; free = free; size = size }

-- a mention of w: a scratch wire that is unslotted takes a slot
abbrev pub meets : List ℕ → Pool → ℕ → Pool
meets marks pool w = cond (scratch marks w && eqb (get_or pool.slots w 0) unslotted) (takes pool.slots pool.free pool.size w) pool

-- the mentions of a gate, in their order
abbrev pub meet_all : List ℕ → Pool → List ℕ → Pool
meet_all marks pool [] = pool
meet_all marks pool (w ∷ gate) = meet_all marks (meets marks pool w) gate

-- wires give their slots back, one after the other
abbrev pub give_all : List ℕ → List ℕ → List ℕ → List ℕ
give_all slots free [] = free
give_all slots free (w ∷ ws) = give_all slots (get_or slots w 0 ∷ free) ws

abbrev pub gives : Pool → List ℕ → Pool
gives pool ws = record { slots = pool.slots; free = give_all pool.slots pool.free ws; size = pool.size }

module _ (wires : ℕ) (marks : List ℕ) (gates : List (List ℕ)) where
  -- the scratch wires whose last mention is at gate k, in rising wire number
  unfoldable pub dying : ℕ → List ℕ
  dying k = among (λ w. scratch marks w && last_at gates k w) 0 wires

  -- Pooled: the pool after the first k gates
  unfoldable pub pooled : ℕ → Pool
  unfolding dying
  pooled zero = record { slots = replicate wires unslotted; free = []; size = 0 }
  pooled (suc k) = gives (meet_all marks (pooled k) (get_or gates k [])) (dying k)

-- PerWire: the marked wires are numbered in rising order, from `next` on
abbrev pub per_wire : ℕ → List ℕ → List ℕ
per_wire next [] = []
per_wire next (mark ∷ marks) = cond (eqb mark 0) (unslotted ∷ per_wire next marks) (next ∷ per_wire (suc next) marks)
