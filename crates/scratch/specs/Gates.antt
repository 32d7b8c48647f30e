-- Document 01, "Scratch slots": gates, spans, the living and their peak, read off the gate list. Nothing here speaks of slots.
-- A gate is the list of the wires that it mentions, in mention order.
use Rattle.std.specs.Prelude.{Bool, false, not, cond, ◌&&◌, ◌||◌, List, [], ◌∷◌, length, get_or, take, drop, eqb}
use Prim.Native.Nat.{ℕ, zero, suc, max}
use Rattle.std.proofs.Math.Seq.{slice}
use Rattle.common.specs.Lists.{member}

-- a gate is what stands between one gate end and the next
abbrev pub gates_from : ℕ → List ℕ → List ℕ → List (List ℕ)
gates_from from [] mentions = []
gates_from from (end ∷ ends) mentions = slice from end mentions ∷ gates_from end ends mentions

abbrev pub gates_of : List ℕ → List ℕ → List (List ℕ)
gates_of ends mentions = gates_from 0 ends mentions

-- a wire whose mark is not zero
abbrev pub scratch : List ℕ → ℕ → Bool
scratch marks w = not (eqb (get_or marks w 0) 0)

-- one of the gates mentions w
abbrev pub mentioned : List (List ℕ) → ℕ → Bool
mentioned [] w = false
mentioned (gate ∷ gates) w = member w gate || mentioned gates w

-- gate k lies in the span of w: w is mentioned there or before, and there or after
abbrev pub spans : List (List ℕ) → ℕ → ℕ → Bool
spans gates k w = mentioned (take (suc k) gates) w && mentioned (drop k gates) w

-- the last mention of w is at gate k
abbrev pub last_at : List (List ℕ) → ℕ → ℕ → Bool
last_at gates k w = member w (get_or gates k []) && not (mentioned (drop (suc k) gates) w)

-- the numbers from a on, m of them, that pass the test, rising
abbrev pub among : (ℕ → Bool) → ℕ → ℕ → List ℕ
among test a zero = []
among test a (suc m) = cond (test a) (a ∷ among test (suc a) m) (among test (suc a) m)

module _ (wires : ℕ) (marks : List ℕ) (gates : List (List ℕ)) where
  -- the scratch wires alive at gate k
  unfoldable pub alive : ℕ → List ℕ
  alive k = among (λ w. scratch marks w && spans gates k w) 0 wires

  -- the largest number of them at one of the first k gates, and at one of all
  unfoldable pub peak_to : ℕ → ℕ
  unfolding alive
  peak_to zero = 0
  peak_to (suc k) = max (peak_to k) (length (alive k))

  abbrev pub peak : ℕ
  peak = peak_to (length gates)
