-- Working definitions over plain lists, cited by contracts of inner functions: what the code's arrays stand for. A reader of the public contract need not believe them.
use Rattle.std.specs.Prelude.{List, [], ◌∷◌, ℕ, zero, suc, ◌<◌, length, get_or, set}

-- where gate k begins; past the last gate, the last gate end
abbrev pub start : ℕ → List ℕ → ℕ → ℕ
start from ends zero = from
start from ends (suc k) = get_or ends k 0

-- the first k of the array, the last one first
abbrev pub stack : List ℕ → ℕ → List ℕ
stack xs zero = []
stack xs (suc k) = get_or xs k 0 ∷ stack xs k

-- c wires from w on, each one's link naming the next
abbrev pub chain : List ℕ → ℕ → ℕ → List ℕ
chain link zero w = []
chain link (suc c) w = w ∷ chain link c (get_or link w 0)

-- each wire of a gate is stamped with the gate's number
abbrev pub stamped : ℕ → List ℕ → List ℕ → List ℕ
stamped g last [] = last
stamped g last (w ∷ ws) = stamped g (set last w g) ws

-- the stamps after the first k gates
abbrev pub stamped_to : List (List ℕ) → ℕ → List ℕ → List ℕ
stamped_to gates zero last = last
stamped_to gates (suc k) last = stamped k (stamped_to gates k last) (get_or gates k [])

abbrev pub Within : ℕ → List ℕ → Type 0
Within n ws = (i : ℕ) → i < length ws → get_or ws i 0 < n
