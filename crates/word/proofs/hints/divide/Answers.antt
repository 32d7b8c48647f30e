-- `word::hints::divide` meets its contract. Assumes nothing.
use Rattle.std.proofs.Common.{◌≡◌, ℕ, zero, suc, ◌/◌, ◌%◌, refl}
use Rattle.word.specs.Hints.{quotient_of, remainder_of}
use Rattle.word.proofs.hints.divide.Goals as goal

positive : (a b : ℕ) → (b ≡ 0 → ⊥) → (a / b ≡ quotient_of a b) × (a % b ≡ remainder_of a b)
unfolding quotient_of remainder_of
positive a zero h = absurd (h refl)
positive a (suc b) h = (refl, refl)

pub returns-then-b-eq0 : goal.returns-then-b-eq0
unfolding quotient_of remainder_of
returns-then-b-eq0 c = rw c.if-b-eq0.true (refl, refl)

pub returns-else-b-eq0 : goal.returns-else-b-eq0
returns-else-b-eq0 c = positive c.args.a c.args.b c.if-b-eq0.false
