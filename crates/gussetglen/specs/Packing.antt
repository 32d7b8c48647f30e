-- The boundary's packing: how an answer is one number, and how a number is read. Bits 0 to 7 are the refusal's number, 0 where there is none. Assumes nothing.
use Rattle.std.specs.Prelude.{ℕ, ◌+◌, ◌*◌, ◌/◌, ◌%◌, ◌^◌, ◌<◌, cond, eqb, Result, Ok, Err}
use Rattle.refusal.specs.Number.{number_of}
use Rattle.refusal.specs.declared.Refusal.{Refusal}
use Rattle.accept.specs.Check.{Verdict, accepted, refusal}
use Rattle.report.specs.Position.{local, batch}
use Rattle.report.specs.Mapped.{mapped}
use Rattle.report.specs.Told.{side_number}
use Rattle.fill.specs.Run.{Answer, reports, refuses}
use Rattle.scratch.specs.Answer.{Told}
use Rattle.report.specs.declared.LocalPosition.{LocalPosition}
use Rattle.report.specs.declared.BatchPosition.{BatchPosition}
use Rattle.report.specs.declared.Report.{Report}
use Rattle.report.specs.declared.Report.TheVariants.{Clean, Failing}
use Rattle.report.specs.declared.Joined.{Joined}

-- ---- an answer as a number

-- bits 8 and up are the offset, 0 where none is carried
abbrev pub packed_refusal : (number offset : ℕ) → ℕ
packed_refusal number offset = number + 256 * offset

abbrev pub packed_verdict : Verdict → ℕ
packed_verdict accepted = 0
packed_verdict (refusal number offset) = packed_refusal number offset

-- bit 8 is 1; bits 9 to 20 the position, bits 21 to 29 kept, bits 30 to 45 the total
abbrev pub packed_failing : (position total kept : ℕ) → ℕ
packed_failing position total kept = 256 + 512 * position + 2 ^ 21 * kept + 2 ^ 30 * total

-- a report of either kind, its position a bare number: a clean one is 0 in all bits
abbrev pub packed_report : Report ℕ → ℕ
packed_report Clean = 0
packed_report (Failing position total kept) = packed_failing position total kept

abbrev pub packed_stripe : Report LocalPosition → ℕ
packed_stripe r = packed_report (mapped (λ p. p.0) r)

abbrev pub packed_batch : Report BatchPosition → ℕ
packed_batch r = packed_report (mapped (λ p. p.0) r)

-- a run's answer
abbrev pub packed_answer : Answer → ℕ
packed_answer (reports r) = packed_stripe r
packed_answer (refuses number offset) = packed_refusal number offset

abbrev pub packed_raised : Result (Report BatchPosition) Refusal → ℕ
packed_raised (Ok b) = packed_batch b
packed_raised (Err r) = packed_refusal (number_of r) 0

-- bits 46 and 47 the side whose records stand: 0 none, 1 left, 2 right
abbrev pub packed_joined : Result Joined Refusal → ℕ
packed_joined (Ok j) = packed_batch j.report + 2 ^ 46 * side_number j.side
packed_joined (Err r) = packed_refusal (number_of r) 0

-- a pool: bits 8 to 23 the length, bits 24 to 39 the peak
abbrev pub packed_pool : Told → ℕ
packed_pool t = t.number + 256 * t.length + 2 ^ 24 * t.peak

-- ---- a number read: bits that no field names are ignored

abbrev pub number_in : ℕ → ℕ
number_in word = word % 256

abbrev pub offset_in : ℕ → ℕ
offset_in word = word / 256

abbrev pub failing_in : ℕ → ℕ
failing_in word = word / 2 ^ 8 % 2

abbrev pub position_in : ℕ → ℕ
position_in word = word / 2 ^ 9 % 2 ^ 12

abbrev pub kept_in : ℕ → ℕ
kept_in word = word / 2 ^ 21 % 2 ^ 9

abbrev pub total_in : ℕ → ℕ
total_in word = word / 2 ^ 30 % 2 ^ 16

abbrev pub side_in : ℕ → ℕ
side_in word = word / 2 ^ 46 % 4

abbrev pub length_in : ℕ → ℕ
length_in word = word / 2 ^ 8 % 2 ^ 16

abbrev pub peak_in : ℕ → ℕ
peak_in word = word / 2 ^ 24 % 2 ^ 16

-- bit 8 clear counts as clean
abbrev pub report_in : ℕ → Report ℕ
report_in word = cond (eqb (failing_in word) 0) Clean (Failing (position_in word) (total_in word) (kept_in word))

abbrev pub stripe_in : ℕ → Report LocalPosition
stripe_in word = mapped local (report_in word)

abbrev pub batch_in : ℕ → Report BatchPosition
batch_in word = mapped batch (report_in word)

-- ---- what the fields hold

-- a position of a batch, fewer than 512 kept and a total below 65,536
pub record Fields (position total kept : ℕ) : Type 0 where
  pub position_fits : position < 2 ^ 12
  pub total_fits : total < 2 ^ 16
  pub kept_fits : kept < 2 ^ 9

abbrev pub ReportFits : Report ℕ → Type 0
ReportFits Clean = Unit {0}
ReportFits (Failing position total kept) = Fields position total kept

abbrev pub StripeFits : Report LocalPosition → Type 0
StripeFits r = ReportFits (mapped (λ p. p.0) r)

abbrev pub BatchFits : Report BatchPosition → Type 0
BatchFits r = ReportFits (mapped (λ p. p.0) r)

abbrev pub AnswerFits : Answer → Type 0
AnswerFits (reports r) = StripeFits r
AnswerFits (refuses number offset) = offset < 2 ^ 32
