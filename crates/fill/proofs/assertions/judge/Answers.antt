-- `fill::assertions::judge` meets its contract: the claim reads rows, and its first failing column is noted. Assumes nothing.
use Rattle.std.proofs.Common.{◌≡◌, ◌∙◌, ℕ, Bool, List, ap₂}
use Rattle.report.specs.declared.record.Failure.{Failure}
use Rattle.rows.specs.declared.Stripe.{Stripe}
use Rattle.fill.specs.Working.{fails_by, told_by, column_of}
use Rattle.fill.specs.declared.assertions.Claim.{Claim}
use Rattle.fill.proofs.Scans.{judged_none, judged_note}
use Rattle.fill.proofs.assertions.judge.Goals as goal

-- what the claim says of column k of the stripe
abbrev fails_at : Stripe → List ℕ → Claim → ℕ → Bool
fails_at s xs claim k = fails_by claim.kind (column_of s xs k claim.condition) (column_of s xs k claim.one) (column_of s xs k claim.two)

abbrev told_at : Stripe → List ℕ → Claim → ℕ → ℕ → Failure
told_at s xs claim n k = told_by claim.kind n claim.path (column_of s xs k claim.one) (column_of s xs k claim.two)

pub returns-in-Some-first_failing-clause-judged : goal.returns-in-Some-first_failing-clause-judged
returns-in-Some-first_failing-clause-judged c =
    let a = c.args in
    let claim = c.in-Some.claim in
    let found = c.in-Some-first_failing in
    let told = told_at a.s a.values.now claim a.number in
    let said : c.failure-violation.result ≡ told found.column =
    c.failure-violation.ensures ∙ ap₂ (told_by claim.kind a.number claim.path) c.word_at-one.ensures c.word_at-two.ensures in
    rw c.in-Some.is
    (judged_note (fails_at a.s a.values.now claim) told a.s.count found.column found.ensures (λ l h. rw said at (c.note.ensures.shows l h)))

pub returns-in_default-first_failing-clause-judged : goal.returns-in_default-first_failing-clause-judged
returns-in_default-first_failing-clause-judged c =
    let a = c.args in
    let claim = c.in-Some.claim in
    rw c.in-Some.is (judged_none (fails_at a.s a.values.now claim) (told_at a.s a.values.now claim a.number) a.s.count c.in_default-first_failing.ensures)
