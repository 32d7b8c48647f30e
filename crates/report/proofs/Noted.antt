-- Laws of noting: one violation more, the kept records, and the answer at the end. Assumes nothing.
use mathlib.Core.Path.{◌≡◌, refl, sym, ap, ◌∙◌}
use mathlib.Core.List.{List, [], ◌∷◌, ◌++◌}
use Prim.Native.Nat.{ℕ, suc, ◌+◌, ◌*◌, ◌<◌, ◌≤◌, min}
use native.Mathlib.Decide.{dec_lt}
use native.Mathlib.Omega.{arith}
use lib.ListN.{length, take, drop, length-append, length-take}
use lib.Seq.{take_all, take-nil, take-append-le, take-append_seam, sets, sets-eq}
use borrow.Author.Tests.{eq-eqb, ne_eqb, lt-ltb, le-ltb}
use Rattle.std.specs.Prelude.{Option, None, Some}
use Rattle.report.specs.Position.{local}
use Rattle.report.specs.Sizes.{record_words}
use Rattle.report.specs.Records.{Lowest, clean, at, words, words_of, report_of, records_of}
use Rattle.report.specs.Working.{Shows, note_at, Begins, pushed}
use Rattle.report.specs.declared.LocalPosition.{LocalPosition}
use Rattle.report.specs.declared.Report.{Report}
use Rattle.report.specs.declared.Report.TheVariants.{Failing}
use Rattle.report.specs.declared.record.Failure.{Failure}
use Rattle.report.specs.declared.noting.Low.{Low}
use Rattle.report.specs.declared.noting.Noting.{Noting}

-- ---- the kept records

pub length-words : (fs : List Failure) → length (words fs) ≡ length fs * record_words
length-words [] = refl
length-words (f ∷ fs) = ap (λ n. suc (suc (suc n))) (length-words fs) ∙ omega arith

words_append : (fs gs : List Failure) → words (fs ++ gs) ≡ words fs ++ words gs
words_append [] gs = refl
words_append (f ∷ fs) gs = ap (λ l. f.head ∷ f.one ∷ f.two ∷ l) (words_append fs gs)

push_kept : (cap : ℕ) (fs : List Failure) (f : Failure) (records : List ℕ) → cap * record_words ≤ length records
    → Begins (words (take cap fs)) records → Begins (words (take cap (fs ++ f ∷ []))) (pushed cap (length fs) f records)
push_kept cap fs f records room h = go (dec_lt (length fs) cap)
  where
    go : Dec (length fs < cap) → Begins (words (take cap (fs ++ f ∷ []))) (pushed cap (length fs) f records)
    go (yes l) =
        let all : take cap (fs ++ f ∷ []) ≡ fs ++ f ∷ [] = take_all cap (fs ++ f ∷ []) (simp length-append (omega arith)) in
        let h' : take (length fs * record_words) records ≡ words fs = ap (λ n. take n records) (sym (length-words fs)) ∙ (rw (take_all cap fs (omega arith)) at h) in
        let fits : length fs * record_words + 3 ≤ length records = omega arith in
        let ws : words (take cap (fs ++ f ∷ [])) ≡ words fs ++ words_of f = ap words all ∙ words_append fs (f ∷ []) in
        let stored : sets records (length fs * record_words) (words_of f) ≡ (words fs ++ words_of f) ++ drop (length fs * record_words + 3) records =
        sets-eq (words_of f) records (length fs * record_words) fits ∙ ap (λ l. l ++ words_of f ++ drop (length fs * record_words + 3) records) h' in
        rw (lt-ltb (length fs) cap l, ws) (ap (take (length (words fs ++ words_of f))) stored ∙ take-append_seam (words fs ++ words_of f) (drop (length fs * record_words + 3) records))
    go (no n) =
        rw (le-ltb (length fs) cap (omega arith), take-append-le cap fs (f ∷ []) (omega arith)) h

-- ---- noting: what is shown before, and after

not-both : (low : Low) → ◌≡◌ {A = Option Low} (Some low) None → ⊥
not-both low e = let z : ◌≡◌ {A = ℕ} 0 1 = cc in omega arith

-- the state before holds the column and the total that are shown
same_low : (low : Low) (p t : ℕ) (o : Option Low) → o ≡ Some low → o ≡ Some (record { column = p; total = t }) → (low.column ≡ p) × (low.total ≡ t)
same_low low p t o e h = (cc, cc)

module _ (n m : Noting) (k earlier : ℕ) (f : Failure) (room : n.cap * record_words ≤ length n.records)
    (cap : m.cap ≡ n.cap) (state : m.lowest ≡ Some (record { column = k; total = earlier + 1 })) (records : m.records ≡ pushed n.cap earlier f n.records) where
  -- the failures of the column before it, put in the order that they came
  added : (fs : List Failure) → earlier ≡ length fs → Begins (words (take n.cap fs)) n.records → Shows (at k (fs ++ f ∷ [])) m
  added fs e h = record {
    state = state ∙ ap (λ (t : ℕ). Some (record { column = k; total = t })) (omega (arith, length-append fs (f ∷ [])));
    begins = rw (cap, records, e) (push_kept n.cap fs f n.records room h);
  }

  begun : earlier ≡ 0 → Shows (at k (f ∷ [])) m
  begun e = added [] e (rw take-nil refl)

  pub note_first : n.lowest ≡ None → earlier ≡ 0 → (l : Lowest) → Shows l n → Shows (note_at k f l) m
  note_first o e clean h = begun e
  note_first o e (at p fs) h = absurd (not-both (record { column = p; total = length fs }) (sym h.state ∙ o))

  pub note_lower : (low : Low) → n.lowest ≡ Some low → k < low.column → earlier ≡ 0 → (l : Lowest) → Shows l n → Shows (note_at k f l) m
  note_lower low o d e clean h = absurd (not-both low (sym o ∙ h.state))
  note_lower low o d e (at p fs) h =
      let same = same_low low p (length fs) n.lowest o h.state in
      rw (le-ltb p k (omega arith), ne_eqb p k (λ z. omega arith)) (begun e)

  pub note_more : (low : Low) → n.lowest ≡ Some low → low.column ≡ k → earlier ≡ low.total → (l : Lowest) → Shows l n → Shows (note_at k f l) m
  note_more low o d e clean h = absurd (not-both low (sym o ∙ h.state))
  note_more low o d e (at p fs) h =
      let same = same_low low p (length fs) n.lowest o h.state in
      rw (le-ltb p k (omega arith), eq-eqb p k (omega arith)) (added fs (omega arith) h.begins)

-- ---- the answer, from what is shown at the end

pub answer_failing : (n : Noting) (l : Lowest) (buffer : List ℕ) (low : Low) (k : ℕ) → k ≡ min low.total n.cap → n.lowest ≡ Some low → Shows l n
    → (◌≡◌ {A = Report LocalPosition} (Failing (local low.column) low.total k) (report_of n.cap l)) × (take (k * record_words) n.records ++ drop (k * record_words) buffer ≡ records_of n.cap l buffer)
answer_failing n clean buffer low k e o h = absurd (not-both low (sym o ∙ h.state))
answer_failing n (at q fs) buffer low k e o h =
    let same = same_low low q (length fs) n.lowest o h.state in
    let few : k ≡ min (length fs) n.cap = e ∙ ap (λ t. min t n.cap) same.1 in
    let size : k * record_words ≡ length (words (take n.cap fs)) = omega (arith, length-words (take n.cap fs), length-take n.cap fs) in (
      λ j. Failing (local (same.0 j)) (same.1 j) (few j),
      rw size (ap (λ ws. ws ++ drop (length (words (take n.cap fs))) buffer) h.begins),
    )
