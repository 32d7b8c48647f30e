-- What a run answers and leaves, by its verdict. Assumes nothing.
use mathlib.Core.Path.{◌≡◌, ap}
use mathlib.Core.Bool.{true, false, not, ◌&&◌}
use mathlib.Core.List.{List}
use Prim.Native.Nat.{ℕ, ◌+◌, ◌*◌, ◌-◌, ◌≤◌, ◌<◌}
use native.Mathlib.Nat.{mul-le-mul_right, mul-le-mul_left}
use native.Mathlib.Decide.{dec_lt}
use native.Mathlib.Omega.{arith}
use lib.Dec.{eqb, leb, ltb}
use borrow.Author.Tests.{not-false, leb-true, eqb-true, lt-ltb, le-ltb, lt-leb, le-leb}
use Rattle.std.specs.Prelude.{Result, Ok}
use Rattle.common.proofs.Bools.{both}
use Rattle.refusal.specs.declared.RefusedAt.{RefusedAt}
use Rattle.bytecode.specs.Program.{program_of}
use Rattle.accept.specs.Check.{accepted, refusal, check_of}
use Rattle.report.specs.Sizes.{max_width, max_cap, record_words}
use Rattle.report.specs.Records.{report_of, records_of}
use Rattle.report.specs.declared.LocalPosition.{LocalPosition}
use Rattle.report.specs.declared.Report.{Report}
use Rattle.rows.specs.Column.{on_stripe}
use Rattle.fill.specs.Meaning.{run_col}
use Rattle.fill.specs.Run.{reports, refuses, answer, Call, shape_broken, cap_broken, bad_shape, bad_cap, verdict_of, lowest_of, answer_of, values_of, buffer_of}

-- ---- 1 and 2 exactly when

pub record Shape (rows width first count size : ℕ) : Type 0 where
  pub few_rows : rows ≤ 8192
  pub narrow : width ≤ max_width
  pub array : size ≡ rows * width
  pub stripe : first + count ≤ width

pub shape_kept : (rows width first count size : ℕ) → shape_broken rows width first count size ≡ false → Shape rows width first count size
shape_kept rows width first count size e =
    let p = both (leb rows 8192) (leb width max_width && (eqb size (rows * width) && leb (first + count) width)) (not-false _ e) in
    let q = both (leb width max_width) (eqb size (rows * width) && leb (first + count) width) p.1 in
    let r = both (eqb size (rows * width)) (leb (first + count) width) q.1 in
    record { few_rows = leb-true rows 8192 p.0; narrow = leb-true width max_width q.0; array = eqb-true size (rows * width) r.0; stripe = leb-true (first + count) width r.1 }

pub cap_kept : (cap size : ℕ) → cap_broken cap size ≡ false → (cap ≤ max_cap) × (size ≡ cap * record_words)
cap_kept cap size e =
    let p = both (leb cap max_cap) (eqb size (cap * record_words)) (not-false _ e) in
    (leb-true cap max_cap p.0, eqb-true size (cap * record_words) p.1)

-- factors within their limits have a product that fits
pub small_product : (rows width : ℕ) → rows ≤ 8192 → width ≤ max_width → rows * width ≤ 33554432
small_product rows width h k = omega (arith, mul-le-mul_right width h, mul-le-mul_left 8192 k)

-- first + count against width, with nothing added
pub same_test : (first count width : ℕ) → first ≤ width → ltb (width - first) count ≡ not (leb (first + count) width)
same_test first count width h = go (dec_lt (width - first) count)
  where
    go : Dec (width - first < count) → ltb (width - first) count ≡ not (leb (first + count) width)
    go (yes l) = rw (lt-ltb (width - first) count l, lt-leb (first + count) width (omega arith))
    go (no n) = rw (le-ltb (width - first) count (omega arith), le-leb (first + count) width (omega arith))

-- ---- by the verdict

module _ (c : Call) where
  pub by_shape : bad_shape c ≡ true → verdict_of c ≡ refusal 1 0
  unfolding verdict_of
  by_shape e = rw e

  pub by_cap : bad_shape c ≡ false → bad_cap c ≡ true → verdict_of c ≡ refusal 2 0
  unfolding verdict_of
  by_cap e f = rw (e, f)

  pub by_check : bad_shape c ≡ false → bad_cap c ≡ false → verdict_of c ≡ check_of c.code c.rows
  unfolding verdict_of
  by_check e f = rw (e, f)

  -- a refusal leaves every lent word as it was
  pub run_refused : (r : Result (Report LocalPosition) RefusedAt) (n at : ℕ) → verdict_of c ≡ refusal n at → answer r ≡ refuses n at → (answer r ≡ answer_of c) × ((c.values ≡ values_of c) × (c.report ≡ buffer_of c))
  unfolding answer_of values_of buffer_of
  run_refused r n at e a = (rw e a, (rw e, rw e))

  pub run_accepted : {r : Report LocalPosition} {values report : List ℕ} → verdict_of c ≡ accepted → r ≡ report_of c.cap (lowest_of c)
      → values ≡ on_stripe (run_col (program_of c.code)) c.rows c.width c.first c.count c.values → report ≡ records_of c.cap (lowest_of c) c.report
      → (answer (Ok r) ≡ answer_of c) × ((values ≡ values_of c) × (report ≡ buffer_of c))
  unfolding answer_of values_of buffer_of
  run_accepted e a v w = (rw e (ap reports a), (rw e v, rw e w))
