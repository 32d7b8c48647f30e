-- What is read from a word fits its fields, and raising and joining keep it so. Assumes nothing.
use mathlib.Core.Path.{◌≡◌, refl, sym, ap, ap₂, ◌∙◌, subst}
use mathlib.Core.Bool.{Bool, true, false, cond}
use Prim.Native.Nat.{ℕ, ◌+◌, ◌<◌}
use native.Mathlib.Omega.{arith}
use lib.Dec.{eqb, ltb}
use borrow.Author.Tests.{ltb-true}
use Rattle.std.specs.Prelude.{Result, Ok, Err}
use Rattle.refusal.specs.declared.Refusal.{Refusal}
use Rattle.refusal.specs.declared.Refusal.TheVariants.{SamePosition, BadPosition}
use Rattle.report.specs.Sizes.{max_width}
use Rattle.report.specs.Position.{local, batch}
use Rattle.report.specs.Mapped.{mapped}
use Rattle.report.specs.Join.{raised, from_side, joined}
use Rattle.report.specs.declared.LocalPosition.{LocalPosition}
use Rattle.report.specs.declared.BatchPosition.{BatchPosition}
use Rattle.report.specs.declared.Report.{Report}
use Rattle.report.specs.declared.Report.TheVariants.{Clean, Failing}
use Rattle.report.specs.declared.Side.TheVariants.{Left, Right}
use Rattle.report.specs.declared.Joined.{Joined}
use Rattle.gussetglen.specs.Packing.{failing_in, position_in, total_in, kept_in, report_in, stripe_in, batch_in, Fields, ReportFits, StripeFits, BatchFits}

-- ---- what is read

fields_in : (word : ℕ) → Fields (position_in word) (total_in word) (kept_in word)
fields_in word = record { position_fits = omega arith; total_fits = omega arith; kept_fits = omega arith }

report_in_fits : (word : ℕ) → ReportFits (report_in word)
report_in_fits word = go (eqb (failing_in word) 0)
  where
    go : (b : Bool) → ReportFits (cond b Clean (Failing (position_in word) (total_in word) (kept_in word)))
    go true = tt
    go false = fields_in word

-- a number as a position and back
there_and_back : {P : Type 0} (f : ℕ → P) (g : P → ℕ) → ((n : ℕ) → g (f n) ≡ n) → (r : Report ℕ) → mapped g (mapped f r) ≡ r
there_and_back f g e Clean = refl
there_and_back f g e (Failing p t k) = ap (λ (n : ℕ). Failing n t k) (e p)

pub stripe_in_fits : (word : ℕ) → StripeFits (stripe_in word)
stripe_in_fits word = subst ReportFits (sym (there_and_back local (λ p. p.0) (λ n. refl) (report_in word))) (report_in_fits word)

pub batch_in_fits : (word : ℕ) → BatchFits (batch_in word)
batch_in_fits word = subst ReportFits (sym (there_and_back batch (λ p. p.0) (λ n. refl) (report_in word))) (report_in_fits word)

-- ---- what is answered

abbrev pub RaisedFits : Result (Report BatchPosition) Refusal → Type 0
RaisedFits (Ok b) = BatchFits b
RaisedFits (Err r) = Unit {0}

abbrev pub JoinedFits : Result Joined Refusal → Type 0
JoinedFits (Ok j) = BatchFits j.report
JoinedFits (Err r) = Unit {0}

pub raised_fits : (start : ℕ) (r : Report LocalPosition) → StripeFits r → RaisedFits (raised start r)
raised_fits start Clean h = tt
raised_fits start (Failing p t k) h = go (ltb (start + p.0) max_width) (ltb-true (start + p.0) max_width)
  where
    go : (b : Bool) → (b ≡ true → start + p.0 < max_width) → RaisedFits (cond b (Ok (Failing (batch (start + p.0)) t k)) (Err BadPosition))
    go true l = record { position_fits = l refl; total_fits = h.total_fits; kept_fits = h.kept_fits }
    go false l = tt

pub joined_fits : (a b : Report BatchPosition) → BatchFits a → BatchFits b → JoinedFits (joined a b)
joined_fits Clean Clean f g = tt
joined_fits Clean (Failing q u l) f g = g
joined_fits (Failing p t k) Clean f g = f
joined_fits (Failing p t k) (Failing q u l) f g = go (eqb p.0 q.0) (ltb p.0 q.0)
  where
    go : (e s : Bool) → JoinedFits (cond e (Err SamePosition) (cond s (from_side Left (Failing p t k)) (from_side Right (Failing q u l))))
    go true s = tt
    go false true = f
    go false false = g

-- the report that `raise`, or `join`, answers to words, its position a bare number
pub raise_gives : (start word : ℕ) {x : Report LocalPosition} {r : Result (Report BatchPosition) Refusal} {b : Report BatchPosition} {n : Report ℕ}
    → x ≡ stripe_in word → r ≡ raised start x → r ≡ Ok b → n ≡ mapped (λ p. p.0) b → ReportFits n
raise_gives start word p q e m = subst ReportFits (sym m) (subst RaisedFits (sym (q ∙ ap (raised start) p) ∙ e) (raised_fits start (stripe_in word) (stripe_in_fits word)))

pub join_gives : (left right : ℕ) {x y : Report BatchPosition} {r : Result Joined Refusal} {j : Joined} {n : Report ℕ}
    → x ≡ batch_in left → y ≡ batch_in right → r ≡ joined x y → r ≡ Ok j → n ≡ mapped (λ p. p.0) j.report → ReportFits n
join_gives left right p q j e m =
    subst ReportFits (sym m)
    (subst JoinedFits (sym (j ∙ ap₂ joined p q) ∙ e) (joined_fits (batch_in left) (batch_in right) (batch_in_fits left) (batch_in_fits right)))
