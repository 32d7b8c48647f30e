-- Working definitions over the code's structs, cited by contracts of inner functions: how it holds the gates, the dying and the pool. A reader of the public contract need not believe them.
pub mod Arrays
use Rattle.std.specs.Prelude.{◌≡◌, List, ℕ, ◌<◌, length, get_or, replicate}
use Rattle.scratch.specs.declared.judge.GateList.{GateList}
use Rattle.scratch.specs.declared.deaths.Chain.{Chain}
use Rattle.scratch.specs.declared.deaths.Deaths.{Deaths}
use Rattle.scratch.specs.declared.stock.Stock.{Stock}
use Rattle.scratch.specs.Gates.{gates_of, peak}
use Rattle.scratch.specs.Policies.{Pool, dying, pooled}
use Rattle.scratch.specs.Working.Arrays.{chain}

-- the gates of a list, and how many wires it has marks for
abbrev pub gates_in : GateList → List (List ℕ)
gates_in list = gates_of list.ends.now list.mentions.now

abbrev pub wires_in : GateList → ℕ
wires_in list = length list.marks.now

-- the pool after all gates, and the peak
abbrev pub pooled_in : GateList → Pool
pooled_in list = pooled (wires_in list) list.marks.now (gates_in list) (length list.ends.now)

abbrev pub peak_in : GateList → ℕ
peak_in list = peak (wires_in list) list.marks.now (gates_in list)

-- the pool that the slots and the stock stand for
abbrev pub pool_of : List ℕ → Stock → Pool
pool_of slots stock = record { slots = slots; free = stock.free; size = stock.size }

-- a chain of no wire, and the wires of one
abbrev pub empty_chain : Chain
empty_chain = record { head = 0; count = 0 }

abbrev pub wires_of : List ℕ → Chain → List ℕ
wires_of link c = chain link c.count c.head

-- the wires that die at gate g
abbrev pub died_at : Deaths → ℕ → List ℕ
died_at deaths g = wires_of deaths.link (get_or deaths.chains g empty_chain)

-- no wire has died yet
abbrev pub Undying : Deaths → Type 0
Undying deaths = deaths.chains ≡ replicate 8193 empty_chain

-- at each gate the wires die that mention it last
abbrev pub Ordered : GateList → Deaths → Type 0
Ordered list deaths = (g : ℕ) → g < length list.ends.now → died_at deaths g ≡ dying (wires_in list) list.marks.now (gates_in list) g
