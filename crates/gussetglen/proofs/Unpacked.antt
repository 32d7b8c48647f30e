-- Unpacking gives back what was packed: each field of a failing report, reports of either kind, a joined report with its side, a refusal
-- with its offset, and a pool. Assumes nothing.
use mathlib.Core.Path.{◌≡◌, refl, ap, ◌∙◌}
use Prim.Native.Nat.{ℕ, ◌+◌, ◌*◌, ◌^◌, ◌<◌}
use native.Mathlib.Omega.{arith}
use mathlib.Core.Bool.{Bool, true, false}
use mathlib.Core.List.{List}
use lib.Dec.{lit<}
use borrow.Author.Tests.{eq-eqb, ne_eqb}
use Rattle.refusal.specs.Number.{number_of}
use Rattle.refusal.specs.declared.Refusal.{Refusal}
use Rattle.refusal.proofs.Numbers.{number_range}
use Rattle.report.specs.Position.{local, batch}
use Rattle.report.specs.Mapped.{mapped}
use Rattle.report.specs.Told.{side_number}
use Rattle.report.specs.declared.LocalPosition.{LocalPosition}
use Rattle.report.specs.declared.BatchPosition.{BatchPosition}
use Rattle.report.specs.declared.Report.{Report}
use Rattle.report.specs.declared.Report.TheVariants.{Clean, Failing}
use Rattle.report.specs.declared.Side.{Side}
use Rattle.report.specs.declared.Side.TheVariants.{Neither, Left, Right}
use Rattle.scratch.specs.Accept.{accepted}
use Rattle.scratch.specs.Answer.{Told, answer_of}
use Rattle.scratch.specs.declared.Policy.{Policy}
use Rattle.scratch.proofs.Promises.{length_fits, peak_fits}
use Rattle.gussetglen.specs.Packing.{packed_refusal, packed_failing, packed_report, packed_stripe, packed_batch, packed_pool, number_in, offset_in, failing_in, position_in, total_in, kept_in, side_in, length_in, peak_in, report_in, stripe_in, batch_in, Fields, ReportFits, StripeFits, BatchFits}

-- ---- the fields of a failing report, with any side

module _ (p t k side word : ℕ) (h : Fields p t k) (e : word ≡ packed_failing p t k + 2 ^ 46 * side) where
  pub number_back : number_in word ≡ 0
  number_back = omega arith

  pub failing_back : failing_in word ≡ 1
  failing_back = omega arith

  pub position_back : position_in word ≡ p
  position_back = omega arith

  pub kept_back : kept_in word ≡ k
  kept_back = omega arith

  pub total_back : total_in word ≡ t
  total_back = omega arith

  pub side_back : side < 4 → side_in word ≡ side
  side_back l = omega arith

  read_back : report_in word ≡ Failing p t k
  read_back = rw (ne_eqb (failing_in word) 0 (λ z. omega (arith, failing_back)), position_back, total_back, kept_back)

-- ---- whole answers

-- a report, its position a bare number, alone or with a side beside it
report_back : (r : Report ℕ) (side word : ℕ) → ReportFits r → word ≡ packed_report r + 2 ^ 46 * side → report_in word ≡ r
report_back Clean side word h e = rw (eq-eqb (failing_in word) 0 (omega arith))
report_back (Failing p t k) side word h e = read_back p t k side word h e

-- a position as a number and back
back_and_there : {P : Type 0} (f : ℕ → P) (g : P → ℕ) → ((p : P) → f (g p) ≡ p) → (r : Report P) → mapped f (mapped g r) ≡ r
back_and_there f g e Clean = refl
back_and_there f g e (Failing p t k) = ap (λ q. Failing q t k) (e p)

pub stripe_back : (r : Report LocalPosition) → StripeFits r → stripe_in (packed_stripe r) ≡ r
stripe_back r h =
    ap (mapped local) (report_back (mapped (λ p. p.0) r) 0 (packed_stripe r) h (omega arith)) ∙ back_and_there local (λ p. p.0) (λ p. refl) r

-- a batch's report, alone or with a side beside it
pub batch_back : (r : Report BatchPosition) (side : ℕ) → BatchFits r → batch_in (packed_batch r + 2 ^ 46 * side) ≡ r
batch_back r side h =
    ap (mapped batch) (report_back (mapped (λ p. p.0) r) side (packed_batch r + 2 ^ 46 * side) h refl) ∙ back_and_there batch (λ p. p.0) (λ p. refl) r

pub side_number_back : (r : Report BatchPosition) (side : Side) → BatchFits r → side_in (packed_batch r + 2 ^ 46 * side_number side) ≡ side_number side
side_number_back Clean Neither h = refl
side_number_back Clean Left h = refl
side_number_back Clean Right h = refl
side_number_back (Failing p t k) side h = side_back p.0 t k (side_number side) (packed_failing p.0 t k + 2 ^ 46 * side_number side) h refl (few side)
  where
    few : (side : Side) → side_number side < 4
    few Neither = omega arith
    few Left = omega arith
    few Right = omega arith

-- a refusal and its offset; it is never taken for an answer
module _ (r : Refusal) (offset : ℕ) where
  pub refusal_back : number_in (packed_refusal (number_of r) offset) ≡ number_of r
  refusal_back = omega (arith, number_range r)

  pub offset_back : offset_in (packed_refusal (number_of r) offset) ≡ offset
  offset_back = omega (arith, number_range r)

  pub refusal_told : number_in (packed_refusal (number_of r) offset) ≡ 0 → ⊥
  refusal_told e = omega (arith, number_range r)

-- a pool's answer, accepted or refused
module _ (wires : ℕ) (ends mentions marks slots : List ℕ) (policy : Policy) where
  abbrev pooled : Told
  pooled = answer_of wires ends mentions marks slots policy

  pool_fits : (pooled.number < 256) × (pooled.length < 2 ^ 16) × (pooled.peak < 2 ^ 16)
  pool_fits = go (accepted wires ends mentions marks slots) refl
    where
      go : (t : Bool) → accepted wires ends mentions marks slots ≡ t → (pooled.number < 256) × (pooled.length < 2 ^ 16) × (pooled.peak < 2 ^ 16)
      go true e = (rw e (lit< tt), omega (arith, length_fits wires ends mentions marks slots e policy), omega (arith, peak_fits wires ends mentions marks slots e policy))
      go false e = (rw e (lit< tt), rw e (lit< tt), rw e (lit< tt))

  pub pool_number_back : number_in (packed_pool pooled) ≡ pooled.number
  pool_number_back = omega (arith, pool_fits)

  pub length_back : length_in (packed_pool pooled) ≡ pooled.length
  length_back = omega (arith, pool_fits)

  pub peak_back : peak_in (packed_pool pooled) ≡ pooled.peak
  peak_back = omega (arith, pool_fits)
