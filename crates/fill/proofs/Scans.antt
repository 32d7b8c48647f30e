-- Laws of claims and scans: what an instruction claims is what its meaning notes, and the first column found decides the report. Assumes nothing.
use mathlib.Core.Path.{◌≡◌, refl, sym, ap, ◌∙◌, subst, fun_ext}
use mathlib.Core.Bool.{Bool, true, false, cond}
use mathlib.Core.List.{List, [], ◌∷◌, ◌++◌, append-nil}
use Prim.Native.Nat.{ℕ, ◌+◌, ◌*◌, ◌<◌}
use native.Mathlib.Nat.{add_assoc}
use native.Mathlib.Decide.{ℕ_discrete, dec_lt}
use native.Mathlib.Omega.{arith}
use lib.ListN.{get_or}
use borrow.Author.Tests.{eq-eqb, ne_eqb, lt-ltb, le-ltb}
use Rattle.std.specs.Prelude.{Some, None}
use Rattle.common.specs.Lists.{all_below}
use Rattle.common.proofs.Below.{below_head, below_tail}
use Rattle.bytecode.specs.Instruction.{inst}
use Rattle.bytecode.specs.declared.instruction.Instruction.{Instruction}
use Rattle.bytecode.specs.declared.instruction.Instruction.TheVariants as I
use Rattle.accept.specs.Sound.{Sound}
use Rattle.report.specs.Records.{Lowest, clean, at, lowest}
use Rattle.report.specs.Working.{Shows, note_at}
use Rattle.report.specs.declared.record.Failure.{Failure}
use Rattle.report.specs.declared.noting.Noting.{Noting}
use Rattle.report.proofs.Lowests.{IsLowest, lowest_is, lowest_only, lowest_ext, cons-nil, snoc_nil}
use Rattle.rows.specs.Column.{Col}
use Rattle.rows.specs.Working.{InRow}
use Rattle.rows.specs.declared.Stripe.{Stripe}
use Rattle.rows.proofs.Stripes.{column_at_lem}
use Rattle.fill.specs.Meaning.{noted}
use Rattle.fill.specs.Working.{claim_of, claimed, Reads, column_of, Never, First, Judged}

-- ---- what an instruction claims

one_below : (rows v : ℕ) → all_below rows (v ∷ []) ≡ true → (v < rows) × (v < rows) × (v < rows)
one_below rows v e = let h = below_head rows v [] e in (h, h, h)

two_below : (rows a b : ℕ) → all_below rows (a ∷ b ∷ []) ≡ true → (a < rows) × (a < rows) × (b < rows)
two_below rows a b e = let h = below_head rows a (b ∷ []) e in (h, h, below_head rows b [] (below_tail rows a (b ∷ []) e))

-- it is what its meaning notes, and it reads rows
claims : (bytes : List ℕ) (i : Instruction)
    → ((n : ℕ) (col : Col) → noted n (inst bytes i) col ≡ claimed n (claim_of i) col) × ((rows : ℕ) → Sound rows (inst bytes i) → Reads rows (claim_of i))
unfolding inst
claims bytes (I.Band a b c) = (λ n col. refl, λ rows s. tt)
claims bytes (I.Bor a b c) = (λ n col. refl, λ rows s. tt)
claims bytes (I.Bxor a b c) = (λ n col. refl, λ rows s. tt)
claims bytes (I.Select a b c d) = (λ n col. refl, λ rows s. tt)
claims bytes (I.BxorMulti a b) = (λ n col. refl, λ rows s. tt)
claims bytes (I.Fax a b c d) = (λ n col. refl, λ rows s. tt)
claims bytes (I.Shift a b c d) = (λ n col. refl, λ rows s. tt)
claims bytes (I.IaddCinCout a b c d e) = (λ n col. refl, λ rows s. tt)
claims bytes (I.IaddCarry a b c) = (λ n col. refl, λ rows s. tt)
claims bytes (I.IsubBinBout a b c d e) = (λ n col. refl, λ rows s. tt)
claims bytes (I.Imul a b c d) = (λ n col. refl, λ rows s. tt)
claims bytes (I.Iadd32CinCout a b c d e) = (λ n col. refl, λ rows s. tt)
claims bytes (I.Iadd32Cout a b c d) = (λ n col. refl, λ rows s. tt)
claims bytes (I.Hint a b c d) = (λ n col. refl, λ rows s. tt)
claims bytes (I.AssertEq a b p) = (λ n col. refl, λ rows s. two_below rows a b s.sources_below)
claims bytes (I.AssertEqCond c a b p) = (
  λ n col. refl,
  λ rows s. let h = two_below rows a b (below_tail rows c (a ∷ b ∷ []) s.sources_below) in (below_head rows c (a ∷ b ∷ []) s.sources_below, h.1, h.2),
)
claims bytes (I.AssertZero v p) = (λ n col. refl, λ rows s. one_below rows v s.sources_below)
claims bytes (I.AssertNonZero v p) = (λ n col. refl, λ rows s. one_below rows v s.sources_below)
claims bytes (I.AssertFalse v p) = (λ n col. refl, λ rows s. one_below rows v s.sources_below)
claims bytes (I.AssertTrue v p) = (λ n col. refl, λ rows s. one_below rows v s.sources_below)

pub claim_notes : (bytes : List ℕ) (n : ℕ) (i : Instruction) (col : Col) → noted n (inst bytes i) col ≡ claimed n (claim_of i) col
claim_notes bytes n i col = (claims bytes i).0 n col

pub claim_reads : (bytes : List ℕ) (rows : ℕ) (i : Instruction) → Sound rows (inst bytes i) → Reads rows (claim_of i)
claim_reads bytes rows i = (claims bytes i).1 rows

-- ---- a scan

-- the word that a loop reads
pub at_column : (s : Stripe) (xs : List ℕ) (k r : ℕ) {n : ℕ} → InRow s n r → get_or xs (r * s.width + s.first + k) 0 ≡ column_of s xs k r
at_column s xs k r h = rw add_assoc (sym (column_at_lem s.width xs (s.first + k) h.0))

-- ---- one assertion more: u has a record at each position where p is true

module _ (v : ℕ → List Failure) (p : ℕ → Bool) (f : ℕ → Failure) (n : ℕ) where
  abbrev w : ℕ → List Failure
  w k = v k ++ cond (p k) (f k ∷ []) []

  same_at : (k : ℕ) → p k ≡ false → w k ≡ v k
  same_at k e = ap (λ b. v k ++ cond b (f k ∷ []) []) e ∙ append-nil (v k)

  more_at : (k : ℕ) → p k ≡ true → w k ≡ v k ++ f k ∷ []
  more_at k e = ap (λ b. v k ++ cond b (f k ∷ []) []) e

  lowest_same : Never p n → lowest w n ≡ lowest v n
  lowest_same never = lowest_ext w v n (λ k l. same_at k (never k l))

  lowest_note : (r : ℕ) → First p n (Some r) → lowest w n ≡ note_at r (f r) (lowest v n)
  lowest_note r (r<n, before, found) = lowest_only w n (lowest w n) (note_at r (f r) (lowest v n)) (lowest_is w n) (go (lowest v n) (lowest_is v n))
    where
      fresh : v r ≡ [] → ((k : ℕ) → k < r → v k ≡ []) → IsLowest w n (at r (f r ∷ []))
      fresh e b = (r<n, more_at r found ∙ ap (λ l. l ++ f r ∷ []) e, cons-nil (f r) [], λ k l. same_at k (before k l) ∙ b k l)

      go : (l : Lowest) → IsLowest v n l → IsLowest w n (note_at r (f r) l)
      go clean h = fresh (h r r<n) (λ k l. h k (omega arith))
      go (at q fs) h = pick (dec_lt q r) (ℕ_discrete q r)
        where
          pick : Dec (q < r) → Dec (q ≡ r) → IsLowest w n (note_at r (f r) (at q fs))
          pick (yes l) d = rw (lt-ltb q r l) (h.0, same_at q (before q l) ∙ h.1, h.2, λ k l'. same_at k (before k (omega arith)) ∙ h.3 k l')
          pick (no a) (yes e) = rw (le-ltb q r (omega arith), eq-eqb q r e) (r<n, more_at r found ∙ ap (λ l. l ++ f r ∷ []) (ap v (sym e) ∙ h.1), snoc_nil fs (f r), λ k l. same_at k (before k l) ∙ h.3 k (omega arith))
          pick (no a) (no b) = rw (le-ltb q r (omega arith), ne_eqb q r b) (fresh (h.3 r (omega arith)) (λ k l. h.3 k (omega arith)))

-- ---- judging, by the first column that fails

module _ (p : ℕ → Bool) (f : ℕ → Failure) (count : ℕ) where
  pub judged_none : {noting : Noting} → First p count None → Judged (λ k. cond (p k) (f k ∷ []) []) count noting noting
  judged_none {noting} never v shown = subst (λ l. Shows l noting) (sym (lowest_same v p f count never)) shown

  pub judged_note : {noting noting' : Noting} (r : ℕ) → First p count (Some r)
      → ((l : Lowest) → Shows l noting → Shows (note_at r (f r) l) noting') → Judged (λ k. cond (p k) (f k ∷ []) []) count noting noting'
  judged_note {noting} {noting'} r h note v shown = subst (λ l. Shows l noting') (sym (lowest_note v p f count r h)) (note (lowest v count) shown)

-- the records by another name
pub judged_as : (count : ℕ) {u w : ℕ → List Failure} {noting noting' : Noting} → ((k : ℕ) → u k ≡ w k) → Judged u count noting noting' → Judged w count noting noting'
judged_as count {u} {w} {noting} {noting'} e h = subst (λ x. Judged x count noting noting') (fun_ext e) h
