-- `accept::walk`'s loop: what is left of the code decides. Assumes nothing.
use Rattle.std.proofs.Common.{◌≡◌, ℕ, ◌+◌, ◌-◌, ◌≤◌, length, drop}
use Rattle.accept.specs.Check.{walk_from}
use Rattle.accept.proofs.walk.Given as goal

abbrev pub invariant-loop-at : goal.invariant-loop-at
invariant-loop-at l =
    (l.at ≤ length l.code)
    × ((k : ℕ) × (length l.code ≤ l.at + k) × (walk_from (length l.code) l.rows l.code 0 ≡ walk_from k l.rows (drop l.at l.code) l.at))

abbrev pub decreases-loop-at : goal.decreases-loop-at
decreases-loop-at l = length l.code - l.at
