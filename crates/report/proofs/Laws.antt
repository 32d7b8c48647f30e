-- Laws of raising and joining: what each says in document 01's words; 12 and 13 exactly when; clean is the unit; one answer. Assumes nothing.
use mathlib.Core.Path.{◌≡◌, refl, sym, ◌∙◌}
use mathlib.Core.Bool.{Bool, true, false, cond}
use mathlib.Core.List.{[], ◌∷◌}
use Prim.Native.Nat.{ℕ, ◌+◌, ◌≤◌, ◌<◌}
use native.Mathlib.Omega.{arith}
use native.Mathlib.Decide.{ℕ_discrete, dec_lt}
use lib.Dec.{eqb, ltb}
use borrow.Author.Tests.{eq-eqb, ne_eqb, lt-ltb, le-ltb}
use Rattle.std.specs.Prelude.{Result, Ok, Err}
use Rattle.refusal.specs.declared.Refusal.{Refusal}
use Rattle.refusal.specs.declared.Refusal.TheVariants.{SamePosition, BadPosition}
use Rattle.report.specs.Sizes.{max_width}
use Rattle.report.specs.Position.{batch}
use Rattle.report.specs.Join.{raised, joined, join_all, from_side}
use Rattle.report.specs.Told.{given, refusal, raised_told, joined_told, stripe_values, batch_values, raising, joining}
use Rattle.report.specs.declared.LocalPosition.{LocalPosition}
use Rattle.report.specs.declared.BatchPosition.{BatchPosition}
use Rattle.report.specs.declared.Report.{Report}
use Rattle.report.specs.declared.Report.TheVariants.{Clean, Failing}
use Rattle.report.specs.declared.Side.TheVariants.{Neither, Left, Right}
use Rattle.report.specs.declared.Joined.{Joined}

-- ---- the answers in document 01's words

pub raised_told_lem : (start : ℕ) (report : Report LocalPosition) → raised_told (raised start report) ≡ raising start (stripe_values report)
raised_told_lem start Clean = refl
raised_told_lem start (Failing p total kept) = go (ltb (start + p.0) max_width)
  where
    go : (b : Bool)
        → raised_told (cond b (Ok (Failing (batch (start + p.0)) total kept)) (Err BadPosition))
        ≡ cond b (given ((start + p.0) ∷ total ∷ kept ∷ [])) (refusal 13)
    go true = refl
    go false = refl

pub joined_told_lem : (left right : Report BatchPosition) → joined_told (joined left right) ≡ joining (batch_values left) (batch_values right)
joined_told_lem Clean Clean = refl
joined_told_lem Clean (Failing q u l) = refl
joined_told_lem (Failing p t k) Clean = refl
joined_told_lem (Failing p t k) (Failing q u l) = go (eqb p.0 q.0) (ltb p.0 q.0)
  where
    go : (e l' : Bool)
        → joined_told (cond e (Err SamePosition) (cond l' (from_side Left (Failing p t k)) (from_side Right (Failing q u l))))
        ≡ cond e (refusal 12) (cond l' (given (1 ∷ p.0 ∷ t ∷ k ∷ [])) (given (2 ∷ q.0 ∷ u ∷ l ∷ [])))
    go true l' = refl
    go false true = refl
    go false false = refl

-- ---- 13 exactly when the sum is 4,096 or more, and no other refusal

abbrev pub Past : ℕ → Report LocalPosition → Type 0
Past start Clean = ⊥
Past start (Failing p total kept) = max_width ≤ start + p.0

pub raise_13 : (start : ℕ) (report : Report LocalPosition) → Past start report → raised start report ≡ Err BadPosition
raise_13 start Clean h = absurd h
raise_13 start (Failing p total kept) h = rw (le-ltb (start + p.0) max_width h)

pub raise_13_only : (start : ℕ) (report : Report LocalPosition) (e : Refusal) → raised start report ≡ Err e → Past start report × (e ≡ BadPosition)
raise_13_only start Clean e q = let z : ◌≡◌ {A = ℕ} 0 1 = cc in absurd (omega arith)
raise_13_only start (Failing p total kept) e q = go (dec_lt (start + p.0) max_width) q
  where
    go : Dec (start + p.0 < max_width) → raised start (Failing p total kept) ≡ Err e → (max_width ≤ start + p.0) × (e ≡ BadPosition)
    go (yes l) q =
        let r : ◌≡◌ {A = Result (Report BatchPosition) Refusal} (Ok (Failing (batch (start + p.0)) total kept)) (Err e) = rw (lt-ltb (start + p.0) max_width l) at q in
        let z : ◌≡◌ {A = ℕ} 0 1 = cc in
        absurd (omega arith)
    go (no n) q =
        let r : ◌≡◌ {A = Result (Report BatchPosition) Refusal} (Err BadPosition) (Err e) = rw (le-ltb (start + p.0) max_width (omega arith)) at q in
        (omega arith, cc)

-- ---- 12 exactly when both fail at one position, and no other refusal

abbrev pub Together : Report BatchPosition → Report BatchPosition → Type 0
Together Clean right = ⊥
Together (Failing p t k) Clean = ⊥
Together (Failing p t k) (Failing q u l) = p.0 ≡ q.0

pub join_12 : (left right : Report BatchPosition) → Together left right → joined left right ≡ Err SamePosition
join_12 Clean right h = absurd h
join_12 (Failing p t k) Clean h = absurd h
join_12 (Failing p t k) (Failing q u l) h = rw (eq-eqb p.0 q.0 h)

pub join_12_only : (left right : Report BatchPosition) (e : Refusal) → joined left right ≡ Err e → Together left right × (e ≡ SamePosition)
join_12_only Clean Clean e h = let z : ◌≡◌ {A = ℕ} 0 1 = cc in absurd (omega arith)
join_12_only Clean (Failing q u l) e h = let z : ◌≡◌ {A = ℕ} 0 1 = cc in absurd (omega arith)
join_12_only (Failing p t k) Clean e h = let z : ◌≡◌ {A = ℕ} 0 1 = cc in absurd (omega arith)
join_12_only (Failing p t k) (Failing q u l) e h = go (ℕ_discrete p.0 q.0) h
  where
    apart : (b : Bool) → cond b (from_side Left (Failing p t k)) (from_side Right (Failing q u l)) ≡ Err e → ⊥
    apart true h = let z : ◌≡◌ {A = ℕ} 0 1 = cc in omega arith
    apart false h = let z : ◌≡◌ {A = ℕ} 0 1 = cc in omega arith

    go : Dec (p.0 ≡ q.0) → joined (Failing p t k) (Failing q u l) ≡ Err e → (p.0 ≡ q.0) × (e ≡ SamePosition)
    go (yes d) h = let r : ◌≡◌ {A = Result Joined Refusal} (Err SamePosition) (Err e) = rw (eq-eqb p.0 q.0 d) at h in (d, cc)
    go (no n) h = absurd (apart (ltb p.0 q.0) (rw (ne_eqb p.0 q.0 n) at h))

-- ---- clean is the unit on either side; none at all is clean

abbrev pub report_in : Result Joined Refusal → Report BatchPosition
report_in (Ok j) = j.report
report_in (Err r) = Clean

pub clean_left : (b : Report BatchPosition) → report_in (joined Clean b) ≡ b
clean_left Clean = refl
clean_left (Failing p t k) = refl

pub clean_right : (b : Report BatchPosition) → report_in (joined b Clean) ≡ b
clean_right Clean = refl
clean_right (Failing p t k) = refl

pub none_joined : join_all [] ≡ from_side Neither Clean
none_joined = refl

pub one-joined : (b : Report BatchPosition) → report_in (join_all (b ∷ [])) ≡ b
one-joined b = clean_right b

-- ---- one answer: a contract that is an equation leaves one value. It serves every function whose contract says `r ≡ ..`

pub one_answer {ℓ} : {A : Type ℓ} {r s a : A} → r ≡ a → s ≡ a → r ≡ s
one_answer e f = e ∙ sym f
