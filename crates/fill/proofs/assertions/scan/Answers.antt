-- `fill::assertions::scan` meets its contract: the columns passed over do not fail. Assumes nothing.
use Rattle.std.proofs.Common.{◌≡◌, ◌∙◌, ◌+◌, ◌*◌, ℕ, Bool, List, sym, get_or, arith, rules, below_more}
use Rattle.rows.specs.Working.{InRow}
use Rattle.rows.specs.declared.Stripe.{Stripe}
use Rattle.fill.specs.Working.{column_of}
use Rattle.fill.specs.declared.assertions.Claim.{Claim}
use Rattle.fill.proofs.Scans.{at_column}
use Rattle.fill.proofs.assertions.scan.Goals as goal
use Rattle.fill.proofs.assertions.scan.Goals.{else-columns-test, else-may_fail-via-then-may_fail+else-fails, else-may_fail-via-else-may_fail, then-columns-test+then-may_fail+then-fails}

-- what the test said, of the column's words
tested : (p : ℕ → ℕ → ℕ → Bool) (claim : Claim) (s : Stripe) (xs : List ℕ) (k : ℕ) {n : ℕ} {r : Bool}
    → (InRow s n claim.condition) × (InRow s n claim.one) × (InRow s n claim.two)
    → r ≡ p (get_or xs (claim.condition * s.width + s.first + k) 0) (get_or xs (claim.one * s.width + s.first + k) 0) (get_or xs (claim.two * s.width + s.first + k) 0)
    → p (column_of s xs k claim.condition) (column_of s xs k claim.one) (column_of s xs k claim.two) ≡ r
tested p claim s xs k h e =
    sym (λ j. p (at_column s xs k claim.condition h.0 j) (at_column s xs k claim.one h.1 j) (at_column s xs k claim.two h.2 j)) ∙ sym e

pub columns-preserved : goal.columns-preserved
columns-preserved g c =
    let a = c.args in (
      c.columns.invariant.0,
      λ p tests spares.
          below_more _ _ (c.columns.invariant.1 p tests spares)
          (elim c.else-may_fail.branch [
            | else-may_fail-via-then-may_fail+else-fails w ↦
                tested p a.claim a.s a.values.now c.columns.k c.requires.in_row (tests.value _ _ _ _ (search rules) (search rules) (search rules) w.fails.ensures) ∙ w.if-fails.false
            | else-may_fail-via-else-may_fail w ↦
                tested p a.claim a.s a.values.now c.columns.k c.requires.in_row
                (sym (spares.value _ _ _ _ (search rules) (search rules) (search rules) c.may_fail.ensures w.if-may_fail.false))
          ]),
    )

pub returns : goal.returns
returns g c p tests spares =
    let a = c.args in
    elim c.columns-test.branch [
      | else-columns-test w ↦ rw (w.first-is, c.columns.invariant.0) (λ k h. c.columns.invariant.1 p tests spares k (omega arith))
      | then-columns-test+then-may_fail+then-fails w ↦ rw w.first-is (
        w.columns-test.true,
        c.columns.invariant.1 p tests spares,
        tested p a.claim a.s a.values.now c.columns.k c.requires.in_row (tests.value _ _ _ _ (search rules) (search rules) (search rules) w.fails.ensures) ∙ w.if-fails.true,
      )
    ]
