-- Stripes run one after the other, what each hands in, and what is read of the join of all that. Assumes nothing.
use Rattle.std.specs.Prelude.{ℕ, ◌*◌, List, [], ◌∷◌, ◌++◌, take, Result, Ok, Err}
use Rattle.refusal.specs.declared.Refusal.{Refusal}
use Rattle.bytecode.specs.Program.{program_of}
use Rattle.report.specs.Sizes.{record_words}
use Rattle.report.specs.Join.{raised, Tree, none, leaf, both, Standing, stands, refused}
use Rattle.report.specs.declared.record.Failure.{Failure}
use Rattle.report.specs.declared.BatchPosition.{BatchPosition}
use Rattle.report.specs.declared.Report.{Report}
use Rattle.report.specs.declared.Report.TheVariants as B
use Rattle.rows.specs.Column.{Col, column, tabulate}
use Rattle.fill.specs.Meaning.{run_col, violations}
use Rattle.fill.specs.Run.{Answer, reports, refuses, Call, call, answer_of, values_of, buffer_of}
use Rattle.batch.specs.Cut.{Batch, Share, share}

-- ---- the runs

-- the run of a share, on the array as it is then
abbrev pub call_of : Batch → Share → List ℕ → Call
call_of b s values =
    call b.code b.rows b.width s.stripe.first s.stripe.count b.cap values s.buffer

-- the run of the whole batch in one stripe
abbrev pub whole_call : Batch → List ℕ → Call
whole_call b buffer = call_of b (share 0 b.width buffer) b.values

-- the array after all the shares
unfoldable pub array_after : Batch → List Share → List ℕ → List ℕ
array_after b [] values = values
array_after b (s ∷ ss) values = array_after b ss (values_of (call_of b s values))

-- ---- what the runs hand in: a report raised by the stripe's start and the buffer with its records, unless the run or the raise is refused

pub data HandedIn : Type 0 where
  handed : Report BatchPosition → List ℕ → HandedIn
  run_refused : ℕ → ℕ → HandedIn
  raise_refused : Refusal → HandedIn

abbrev pub after_raise : Result (Report BatchPosition) Refusal → List ℕ → HandedIn
after_raise (Ok report) buffer = handed report buffer
after_raise (Err r) buffer = raise_refused r

abbrev pub after_run : ℕ → Answer → List ℕ → HandedIn
after_run start (reports report) buffer = after_raise (raised start report) buffer
after_run start (refuses n at) buffer = run_refused n at

abbrev pub hand_in : Batch → Share → List ℕ → HandedIn
hand_in b s values = after_run s.stripe.first (answer_of (call_of b s values)) (buffer_of (call_of b s values))

unfoldable pub handed_in : Batch → List Share → List ℕ → List HandedIn
handed_in b [] values = []
handed_in b (s ∷ ss) values = hand_in b s values ∷ handed_in b ss (values_of (call_of b s values))

-- nothing was refused
abbrev pub AllHanded : List HandedIn → Type 0
AllHanded [] = Unit {0}
AllHanded (handed report buffer ∷ hs) = AllHanded hs
AllHanded (run_refused n at ∷ hs) = ⊥
AllHanded (raise_refused r ∷ hs) = ⊥

-- ---- what is joined, and what is read of it

-- what stands at the leaves of a tree of joins, from left to right
abbrev pub leaves : Tree → List HandedIn
leaves none = []
leaves (leaf report buffer) = handed report buffer ∷ []
leaves (both t u) = leaves t ++ leaves u

abbrev pub kept_by : Report BatchPosition → ℕ
kept_by B.Clean = 0
kept_by (B.Failing p total kept) = kept

-- a report with the words of the records that it keeps; the buffer past them is not read
abbrev pub read : Standing → Standing
read (stands report buffer) = stands report (take (kept_by report * record_words) buffer)
read (refused r) = refused r

-- ---- a parcel

-- a column of the batch, and its violations
abbrev pub column_of : Batch → ℕ → Col
column_of b c = column b.rows b.width b.values c

abbrev pub violations_of : Batch → ℕ → List Failure
violations_of b c = violations (program_of b.code) (column_of b c)

-- what a column's own run leaves in it
abbrev pub filled_of : Batch → ℕ → Col
filled_of b c = run_col (program_of b.code) (column_of b c)

-- the single-parcel run: the column's words in an array of their own, of width 1
abbrev pub alone_call : Batch → List ℕ → ℕ → Call
alone_call b buffer c = call b.code b.rows 1 0 1 b.cap (tabulate b.rows (column_of b c)) buffer
