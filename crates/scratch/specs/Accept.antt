-- Document 01, "Sizes" and refusal 14, BadGates: which gate lists are accepted.
use Rattle.std.specs.Prelude.{Bool, ◌&&◌, ◌≡◌, List, [], ◌∷◌, ℕ, suc, ◌≤◌, ◌<◌, length, get_or, eqb, leb}
use Rattle.common.specs.Lists.{all_below}

abbrev pub most_wires : ℕ
most_wires = 8192

abbrev pub most_gates : ℕ
most_gates = 8192

abbrev pub most_mentions : ℕ
most_mentions = 16384

-- the gate ends do not fall, from `from` on, and the last is the mention count; with no gates `from` is
abbrev pub closes : ℕ → ℕ → List ℕ → Bool
closes from count [] = eqb from count
closes from count (end ∷ ends) = leb from end && closes end count ends

unfoldable pub accepted : ℕ → List ℕ → List ℕ → List ℕ → List ℕ → Bool
accepted wires ends mentions marks slots =
    leb wires most_wires
    && (leb (length ends) most_gates
    && (leb (length mentions) most_mentions
    && (closes 0 (length mentions) ends
    && (all_below wires mentions
    && (eqb (length marks) wires && eqb (length slots) wires)))))

-- the ways to be refused, one for each clause of the line of refusal 14, and mentions without gates: accepted is what has none of them
-- (proofs/Refusals.antt)
pub data Broken (wires : ℕ) (ends mentions marks slots : List ℕ) : Type 0 where
  many_wires : most_wires < wires → Broken wires ends mentions marks slots
  many_gates : most_gates < length ends → Broken wires ends mentions marks slots
  many_mentions : most_mentions < length mentions → Broken wires ends mentions marks slots
  ends_fall : (k : ℕ) → suc k < length ends → get_or ends (suc k) 0 < get_or ends k 0 → Broken wires ends mentions marks slots
  ends_elsewhere : (k : ℕ) → suc k ≡ length ends → (get_or ends k 0 ≡ length mentions → ⊥) → Broken wires ends mentions marks slots
  mentions_without_gates : length ends ≡ 0 → 0 < length mentions → Broken wires ends mentions marks slots
  unknown_wire : (i : ℕ) → i < length mentions → wires ≤ get_or mentions i 0 → Broken wires ends mentions marks slots
  other_marks : (length marks ≡ wires → ⊥) → Broken wires ends mentions marks slots
  other_slots : (length slots ≡ wires → ⊥) → Broken wires ends mentions marks slots
