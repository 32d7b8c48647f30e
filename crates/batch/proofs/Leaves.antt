-- What a share hands in: no refusal, and a report with its records that tells of its stripe's columns. Assumes nothing.
use Prim.Native.Nat.{ℕ, ◌+◌, ◌*◌, ◌-◌, ◌<◌, ◌≤◌, min}
use mathlib.Core.Path.{◌≡◌, refl, sym, ap, ◌∙◌}
use mathlib.Core.List.{List, [], ◌∷◌, map}
use native.Mathlib.Omega.{arith}
use native.Mathlib.Decide.{dec_lt}
use lib.ListN.{length, take, drop, length-take}
use lib.Seq.{take_all, take-append_seam}
use borrow.Author.Tests.{lt-ltb}
use Rattle.report.specs.Sizes.{max_width, record_words}
use Rattle.report.specs.Position.{batch}
use Rattle.report.specs.Records.{words, Lowest, clean, at, lowest, report_of, records_of}
use Rattle.report.specs.declared.record.Failure.{Failure}
use Rattle.report.specs.declared.BatchPosition.{BatchPosition}
use Rattle.report.specs.declared.Report.{Report}
use Rattle.report.specs.declared.Report.TheVariants as B
use Rattle.report.proofs.Lowests.{IsLowest, lowest_is}
use Rattle.report.proofs.Noted.{length-words}
use Rattle.fill.specs.Run.{reports}
use Rattle.batch.specs.Cut.{Batch, Part, Share, stripe_of}
use Rattle.batch.specs.Batch.{HandedIn, handed, after_run, AllHanded, kept_by, violations_of}
use Rattle.batch.specs.Demands.{Tells}
use Rattle.batch.proofs.Cuts.{In, Inside, AllInside}

-- ---- the kept records at the front of a buffer

take_fewer : (cap : ℕ) (fs : List Failure) → take (min (length fs) cap) fs ≡ take cap fs
take_fewer cap fs = go (dec_lt (length fs) cap)
  where
    go : Dec (length fs < cap) → take (min (length fs) cap) fs ≡ take cap fs
    go (yes l) = take_all (min (length fs) cap) fs (omega arith) ∙ sym (take_all cap fs (omega arith))
    go (no n) = let e : min (length fs) cap ≡ cap = omega arith in ap (λ k. take k fs) e

kept_front : (cap p : ℕ) (fs : List Failure) (buffer : List ℕ)
    → take (min (length fs) cap * record_words) (records_of cap (at p fs) buffer) ≡ words (take (min (length fs) cap) fs)
kept_front cap p fs buffer =
    let size : min (length fs) cap * record_words ≡ length (words (take cap fs)) = omega (arith, length-words (take cap fs), length-take cap fs) in
    ap (λ n. take n (records_of cap (at p fs) buffer)) size
    ∙ take-append_seam (words (take cap fs)) (drop (length (words (take cap fs))) buffer)
    ∙ ap words (sym (take_fewer cap fs))

some : (fs : List Failure) → (fs ≡ [] → ⊥) → 0 < length fs
some [] n = absurd (n refl)
some (f ∷ fs) n = omega arith

-- ---- what a share hands in, said of the batch as it was before any run

abbrev pub low_in : Batch → Part → Lowest
low_in b s = lowest (λ k. violations_of b (s.first + k)) s.count

abbrev pub leaf_of : Batch → Share → HandedIn
leaf_of b s = after_run s.stripe.first (reports (report_of b.cap (low_in b (stripe_of s)))) (records_of b.cap (low_in b (stripe_of s)) s.buffer)

-- it is no refusal, and it tells of the stripe's columns
pub record HandsIn (b : Batch) (s : Share) : Type 0 where
  pub report : Report BatchPosition
  pub after : List ℕ
  pub is : leaf_of b s ≡ handed report after
  pub tells : Tells (In (stripe_of s)) b.cap (violations_of b) report (take (kept_by report * record_words) after)

pub leaf_told : (b : Batch) (s : Share) → b.width ≤ max_width → Inside b.width (stripe_of s) → HandsIn b s
leaf_told b s narrow inside = go (low_in b (stripe_of s)) refl (lowest_is (λ k. v (first + k)) count)
  where
    first : ℕ
    first = s.stripe.first

    count : ℕ
    count = s.stripe.count

    v : ℕ → List Failure
    v = violations_of b

    moved : (c : ℕ) → In (stripe_of s) c → first + (c - first) ≡ c
    moved c i = omega (arith, i)

    go : (l : Lowest) → low_in b (stripe_of s) ≡ l → IsLowest (λ k. v (first + k)) count l → HandsIn b s
    go clean e h = record {
      report = B.Clean;
      after = records_of b.cap clean s.buffer;
      is = ap (λ l. after_run first (reports (report_of b.cap l)) (records_of b.cap l s.buffer)) e;
      tells = (λ c i. ap v (sym (moved c i)) ∙ h (c - first) (omega (arith, i)), refl);
    }
    go (at p fs) e h =
        let low : first + p < max_width = omega (arith, h.0) in
        record {
          report = B.Failing (batch (first + p)) (length fs) (min (length fs) b.cap);
          after = records_of b.cap (at p fs) s.buffer;
          is = ap (λ l. after_run first (reports (report_of b.cap l)) (records_of b.cap l s.buffer)) e ∙ (rw (lt-ltb (first + p) max_width low));
          tells = record {
            among = (omega arith, omega (arith, h.0));
            lower = λ c i l. ap v (sym (moved c i)) ∙ h.3 (c - first) (omega (arith, i));
            exact = ap length (sym h.1);
            fails = some fs h.2;
            smaller = refl;
            first_failures = kept_front b.cap p fs s.buffer ∙ ap (λ l. words (take (min (length fs) b.cap) l)) (sym h.1);
          };
        }

pub leaves_handed : (b : Batch) → b.width ≤ max_width → (ss : List Share) → AllInside b.width ss → AllHanded (map (leaf_of b) ss)
leaves_handed b narrow [] w = tt
leaves_handed b narrow (s ∷ ss) w = let t = leaf_told b s narrow w.0 in rw t.is (leaves_handed b narrow ss w.1)
