-- What a run answers fits the packing, since a position is below 4,096, a total at most 7,281, kept at most 256, and an offset within the program. Assumes nothing.
use mathlib.Core.Path.{◌≡◌, refl, ap}
use mathlib.Core.Bool.{Bool, true, false, cond}
use mathlib.Core.List.{List, [], ◌∷◌}
use Prim.Native.Nat.{ℕ, suc, ◌+◌, ◌≤◌}
use native.Mathlib.Nat.{min-le_right}
use native.Mathlib.Omega.{arith}
use lib.ListN.{length, length-append}
use Rattle.refusal.specs.Number.{number_of}
use Rattle.refusal.specs.declared.Refusal.TheVariants.{BadShape, BadCap}
use Rattle.bytecode.specs.Layout.{AreBytes}
use Rattle.bytecode.specs.Instruction.{Inst}
use Rattle.bytecode.specs.Program.{program_of}
use Rattle.accept.specs.Check.{Verdict, accepted, refusal, check_of}
use Rattle.accept.proofs.Acceptance.{accepted_program, few_instructions}
use Rattle.accept.proofs.Refusals.{offset_small}
use Rattle.report.specs.Records.{Lowest, clean, at, lowest, report_of}
use Rattle.report.specs.declared.record.Failure.{Failure}
use Rattle.report.proofs.Lowests.{IsLowest, lowest_is}
use Rattle.rows.specs.Column.{Col, column}
use Rattle.fill.specs.Meaning.{step, noted, violations_from, violations}
use Rattle.fill.specs.Run.{Call, reports, refuses, bad_shape, bad_cap, verdict_of, if_accepted, lowest_of, answer_of}
use Rattle.fill.proofs.Runs.{noted_few}
use Rattle.fill.proofs.Calls.{shape_kept, cap_kept}
use Rattle.gussetglen.specs.Packing.{StripeFits, AnswerFits}

-- an instruction has one violation at most
violations_few : (n : ℕ) (is : List Inst) (col : Col) → length (violations_from n is col) ≤ length is
unfolding violations_from
violations_few n [] col = omega arith
violations_few n (i ∷ is) col =
    omega (arith, length-append (noted n i col) (violations_from (suc n) is (step i col)), noted_few n i col, violations_few (suc n) is (step i col))

report_fits : (cap count : ℕ) (v : ℕ → List Failure) → cap ≤ 256 → count ≤ 4096 → ((k : ℕ) → length (v k) ≤ 7281) → (l : Lowest) → IsLowest v count l → StripeFits (report_of cap l)
report_fits cap count v hc hn few clean h = tt
report_fits cap count v hc hn few (at p fs) h =
    record { position_fits = omega (arith, h.0); total_fits = omega (arith, few p, ap length h.1); kept_fits = omega (arith, min-le_right (length fs) cap) }

pub answer_fits : (c : Call) → AreBytes c.code → AnswerFits (answer_of c)
unfolding answer_of verdict_of lowest_of
answer_fits c bytes = shape (bad_shape c) refl
  where
    v : ℕ → List Failure
    v k = violations (program_of c.code) (column c.rows c.width c.values (c.first + k))

    checked : (w : Verdict) → check_of c.code c.rows ≡ w → bad_shape c ≡ false → bad_cap c ≡ false → AnswerFits (if_accepted w (reports (report_of c.cap (lowest v c.count))) refuses)
    checked accepted e s k =
        let few = few_instructions c.code c.rows (accepted_program c.code c.rows bytes e) in
        let f = shape_kept c.rows c.width c.first c.count (length c.values) s in
        report_fits c.cap c.count v (cap_kept c.cap (length c.report) k).0 (omega (arith, f.narrow, f.stripe))
        (λ j. omega (arith, violations_few 0 (program_of c.code) (column c.rows c.width c.values (c.first + j)), few)) (lowest v c.count) (lowest_is v c.count)
    checked (refusal n o) e s k = omega (arith, offset_small c.code c.rows n o bytes e)

    capped : (b : Bool) → bad_cap c ≡ b → bad_shape c ≡ false → AnswerFits (if_accepted (cond b (refusal (number_of BadCap) 0) (check_of c.code c.rows)) (reports (report_of c.cap (lowest v c.count))) refuses)
    capped true e s = omega arith
    capped false e s = checked (check_of c.code c.rows) refl s e

    shape : (b : Bool) → bad_shape c ≡ b → AnswerFits (if_accepted (cond b (refusal (number_of BadShape) 0) (cond (bad_cap c) (refusal (number_of BadCap) 0) (check_of c.code c.rows))) (reports (report_of c.cap (lowest v c.count))) refuses)
    shape true e = omega arith
    shape false e = capped (bad_cap c) refl e
