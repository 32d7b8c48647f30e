-- What a run over a stripe answers and leaves: document 01, "Sizes", "Numbered refusals", "Assertions and reports". Assumes nothing.
use Rattle.std.specs.Prelude.{ℕ, ◌+◌, ◌*◌, Bool, cond, not, ◌&&◌, List, length, eqb, leb, Result, Ok, Err}
use Rattle.refusal.specs.Number.{number_of}
use Rattle.refusal.specs.declared.Refusal.TheVariants.{BadShape, BadCap}
use Rattle.refusal.specs.declared.RefusedAt.{RefusedAt}
use Rattle.bytecode.specs.Program.{program_of}
use Rattle.accept.specs.Check.{Verdict, accepted, refusal, check_of}
use Rattle.report.specs.Sizes.{max_width, max_cap, record_words}
use Rattle.report.specs.Records.{Lowest, lowest, report_of, records_of}
use Rattle.report.specs.declared.LocalPosition.{LocalPosition}
use Rattle.report.specs.declared.Report.{Report}
use Rattle.rows.specs.Column.{column, on_stripe}
use Rattle.fill.specs.Meaning.{run_col, violations}

-- ---- the answer

-- a report, or a refusal by its number with the offset that it carries, 0 where it carries none
pub data Answer : Type 0 where
  reports : Report LocalPosition → Answer
  refuses : ℕ → ℕ → Answer

-- what each case of the run's answer says
abbrev pub answer : Result (Report LocalPosition) RefusedAt → Answer
answer (Ok r) = reports r
answer (Err r) = refuses (number_of r.refusal) r.offset

-- ---- what a run is asked

pub record Call : Type 0 where
  pub code : List ℕ
  pub rows : ℕ
  pub width : ℕ
  pub first : ℕ
  pub count : ℕ
  pub cap : ℕ
  pub values : List ℕ
  pub report : List ℕ

abbrev pub call : List ℕ → ℕ → ℕ → ℕ → ℕ → ℕ → List ℕ → List ℕ → Call
call code rows width first count cap values report =
    record { code = code; rows = rows; width = width; first = first; count = count; cap = cap; values = values; report = report }

-- 1: the rows, the width, the array's length or the stripe
abbrev pub shape_broken : ℕ → ℕ → ℕ → ℕ → ℕ → Bool
shape_broken rows width first count size = not (leb rows 8192 && (leb width max_width && (eqb size (rows * width) && leb (first + count) width)))

-- 2: the cap or the report buffer's length
abbrev pub cap_broken : ℕ → ℕ → Bool
cap_broken cap size = not (leb cap max_cap && eqb size (cap * record_words))

abbrev pub bad_shape : Call → Bool
bad_shape c = shape_broken c.rows c.width c.first c.count (length c.values)

abbrev pub bad_cap : Call → Bool
bad_cap c = cap_broken c.cap (length c.report)

-- 1, 2, 3, then the instructions in order; 3 is the first that the program check gives once the rows have passed
unfoldable pub verdict_of : Call → Verdict
verdict_of c =
    cond (bad_shape c) (refusal (number_of BadShape) 0) (cond (bad_cap c) (refusal (number_of BadCap) 0) (check_of c.code c.rows))

-- ---- what comes of it

abbrev pub if_accepted : {A : Type 0} → Verdict → A → (ℕ → ℕ → A) → A
if_accepted accepted x y = x
if_accepted (refusal n at) x y = y n at

-- the lowest failing column of the stripe: each column's violations are those of its own run
unfoldable pub lowest_of : Call → Lowest
lowest_of c = lowest (λ k. violations (program_of c.code) (column c.rows c.width c.values (c.first + k))) c.count

unfoldable pub answer_of : Call → Answer
answer_of c = if_accepted (verdict_of c) (reports (report_of c.cap (lowest_of c))) refuses

-- each column of the stripe is its own run, every other word as it was; a refusal changes nothing
unfoldable pub values_of : Call → List ℕ
values_of c =
    if_accepted (verdict_of c) (on_stripe (run_col (program_of c.code)) c.rows c.width c.first c.count c.values) (λ n at. c.values)

-- the kept records, and past them what was there; a refusal changes nothing
unfoldable pub buffer_of : Call → List ℕ
buffer_of c = if_accepted (verdict_of c) (records_of c.cap (lowest_of c) c.report) (λ n at. c.report)
