-- What each case of an answer says: document 01's number of the refusal, 0 where there is none, and the values that come with it.
use Rattle.std.specs.Prelude.{ℕ, ◌+◌, cond, List, [], ◌∷◌, ltb, eqb, Result, Ok, Err}
use Rattle.refusal.specs.Number.{number_of}
use Rattle.refusal.specs.declared.Refusal.{Refusal}
use Rattle.report.specs.Sizes.{max_width}
use Rattle.report.specs.declared.LocalPosition.{LocalPosition}
use Rattle.report.specs.declared.BatchPosition.{BatchPosition}
use Rattle.report.specs.declared.Report.{Report}
use Rattle.report.specs.declared.Report.TheVariants.{Clean, Failing}
use Rattle.report.specs.declared.Side.{Side}
use Rattle.report.specs.declared.Side.TheVariants.{Neither, Left, Right}
use Rattle.report.specs.declared.Joined.{Joined}

pub record Told : Type 0 where
  pub number : ℕ
  pub values : List ℕ

abbrev pub given : List ℕ → Told
given vs = record { number = 0; values = vs }

abbrev pub refusal : ℕ → Told
refusal n = record { number = n; values = [] }

-- ---- the cases

-- a clean report has no values; a failing one has position, total and kept
abbrev pub values_by : {P : Type 0} → (P → ℕ) → Report P → List ℕ
values_by column Clean = []
values_by column (Failing p total kept) = column p ∷ total ∷ kept ∷ []

abbrev pub stripe_values : Report LocalPosition → List ℕ
stripe_values = values_by (λ p. p.0)

abbrev pub batch_values : Report BatchPosition → List ℕ
batch_values = values_by (λ p. p.0)

abbrev pub raised_told : Result (Report BatchPosition) Refusal → Told
raised_told (Ok b) = given (batch_values b)
raised_told (Err r) = refusal (number_of r)

-- no side, the left, the right
abbrev pub side_number : Side → ℕ
side_number Neither = 0
side_number Left = 1
side_number Right = 2

-- the side, then the report's values
abbrev pub joined_told : Result Joined Refusal → Told
joined_told (Ok j) = given (side_number j.side ∷ batch_values j.report)
joined_told (Err r) = refusal (number_of r)

-- ---- raising and joining in these words; total and kept are passed on as they came

-- 13 exactly when the sum is 4,096 or more
abbrev pub raising : ℕ → List ℕ → Told
raising start [] = given []
raising start (p ∷ vs) = cond (ltb (start + p) max_width) (given ((start + p) ∷ vs)) (refusal 13)

-- 12 exactly when both name one position
abbrev pub joining : List ℕ → List ℕ → Told
joining [] [] = given (0 ∷ [])
joining [] (q ∷ ws) = given (2 ∷ q ∷ ws)
joining (p ∷ vs) [] = given (1 ∷ p ∷ vs)
joining (p ∷ vs) (q ∷ ws) =
    cond (eqb p q) (refusal 12) (cond (ltb p q) (given (1 ∷ p ∷ vs)) (given (2 ∷ q ∷ ws)))
