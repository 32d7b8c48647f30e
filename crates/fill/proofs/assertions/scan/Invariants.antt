-- `fill::assertions::scan`'s loop: no column that it passed fails, whatever tests the calls turn out to be. Assumes nothing.
use Rattle.std.proofs.Common.{◌≡◌, ℕ, Bool, None}
use Rattle.fill.specs.Working.{column_of, Tests, Spares, Never}
use Rattle.fill.proofs.assertions.scan.Given as goal

abbrev pub invariant-columns : goal.invariant-columns
invariant-columns g l =
    (l.first ≡ None) × ((p : ℕ → ℕ → ℕ → Bool) → Tests (goal.F-post g l.fails) p → Spares (goal.M-post g l.may_fail) p
    → Never (λ k. p (column_of l.fn.s l.values k l.fn.claim.condition) (column_of l.fn.s l.values k l.fn.claim.one) (column_of l.fn.s l.values k l.fn.claim.two)) l.k)
