-- Demand 2 of a single parcel, and demand 3, as statements: proofs/Demands.antt proves them of every accepted batch and every cut. Assumes nothing.
use Rattle.std.specs.Prelude.{ℕ, ◌<◌, min, ◌≡◌, length, take}
use mathlib.Core.List.{List, [], Permᴰ}
use Rattle.accept.specs.Check.{accepted}
use Rattle.report.specs.Records.{words, fails_at, report_of, records_of}
use Rattle.report.specs.Join.{Tree, join_tree, stands}
use Rattle.report.specs.declared.record.Failure.{Failure}
use Rattle.report.specs.declared.BatchPosition.{BatchPosition}
use Rattle.report.specs.declared.Report.{Report}
use Rattle.report.specs.declared.Report.TheVariants as B
use Rattle.rows.specs.Column.{column, tabulate}
use Rattle.fill.specs.Run.{reports, verdict_of, answer_of, values_of, buffer_of}
use Rattle.batch.specs.Cut.{Batch, Share, share}
use Rattle.batch.specs.Batch.{whole_call, array_after, handed, hand_in, handed_in, AllHanded, leaves, read, violations_of, filled_of, alone_call}

-- ---- what a report with its records says of some columns, v giving each one's violations

-- p is the lowest of them that fails; its total is exact, and the records are its first failures in program order, up to the cap
pub record NamesLowest (Among : ℕ → Type 0) (cap : ℕ) (v : ℕ → List Failure) (p total kept : ℕ) (records : List ℕ) : Type 0 where
  pub among : Among p
  pub lower : (c : ℕ) → Among c → c < p → v c ≡ []
  pub exact : total ≡ length (v p)
  pub fails : 0 < total
  pub smaller : kept ≡ min total cap
  pub first_failures : records ≡ words (take kept (v p))

-- clean: none of them fails
abbrev pub Tells : (ℕ → Type 0) → ℕ → (ℕ → List Failure) → Report BatchPosition → List ℕ → Type 0
Tells Among cap v B.Clean records = ((c : ℕ) → Among c → v c ≡ []) × (records ≡ [])
Tells Among cap v (B.Failing p total kept) records = NamesLowest Among cap v p.0 total kept records

-- ---- demand 2: a column run alone, and the same column of the batch

pub record Parcel (b : Batch) (buffer : List ℕ) (c : ℕ) : Type 0 where
  pub alone_accepted : verdict_of (alone_call b buffer c) ≡ accepted
  pub alone_words : values_of (alone_call b buffer c) ≡ tabulate b.rows (filled_of b c)
  pub alone_answer : answer_of (alone_call b buffer c) ≡ reports (report_of b.cap (fails_at 0 (violations_of b c)))
  pub alone_records : buffer_of (alone_call b buffer c) ≡ records_of b.cap (fails_at 0 (violations_of b c)) buffer
  pub alone_column : column b.rows 1 (values_of (alone_call b buffer c)) 0 ≡ filled_of b c
  pub same_in_batch : column b.rows b.width (values_of (whole_call b buffer)) c ≡ column b.rows 1 (values_of (alone_call b buffer c)) 0

-- ---- demand 3: `buffer` is the one that the whole batch in one stripe would report into

pub record CutAnyhow (b : Batch) (buffer : List ℕ) (ss : List Share) : Type 0 where
  -- no run and no raise is refused
  pub all_handed : AllHanded (handed_in b ss b.values)
  -- the array is that of the whole batch in one stripe
  pub array : array_after b ss b.values ≡ values_of (whole_call b buffer)
  -- every column is its own single-parcel run
  pub columns : (c : ℕ) → c < b.width → column b.rows b.width (array_after b ss b.values) c ≡ filled_of b c
  pub parcels : (c : ℕ) → c < b.width → column b.rows b.width (array_after b ss b.values) c ≡ column b.rows 1 (values_of (alone_call b buffer c)) 0
  -- what the whole batch in one stripe hands in
  pub report : Report BatchPosition
  pub records : List ℕ
  pub whole_stripe : (after : List ℕ) × (hand_in b (share 0 b.width buffer) b.values ≡ handed report after) × (read (stands report after) ≡ stands report records)
  -- it names the lowest failing parcel, or none if no parcel fails
  pub tells : Tells (λ c. c < b.width) b.cap (violations_of b) report records
  -- joined in any order and any bracketing it is the same, and no join is refused
  pub joins : (t : Tree) → Permᴰ (leaves t) (handed_in b ss b.values) → read (join_tree t) ≡ stands report records
