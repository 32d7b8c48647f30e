-- A run refuses exactly what document 01 says, and its answer is one. Assumes nothing.
use mathlib.Core.Path.{◌≡◌, refl, sym, ap, ◌∙◌, subst}
use mathlib.Core.Logic.{◌↔◌}
use mathlib.Core.Bool.{Bool, true, false, ◌&&◌}
use Prim.Native.Nat.{ℕ, ◌+◌, ◌*◌, ◌≤◌}
use native.Mathlib.Omega.{arith}
use lib.ListN.{length}
use lib.Dec.{eqb, leb}
use borrow.Author.Tests.{not-true, leb-false, eqb-false, le-leb, eq-eqb}
use Rattle.std.specs.Prelude.{Result, Ok, Err}
use Rattle.refusal.proofs.Numbers.{number_names_one}
use Rattle.refusal.specs.declared.RefusedAt.{RefusedAt}
use Rattle.bytecode.specs.Layout.{AreBytes}
use Rattle.accept.specs.Check.{accepted, refusal, check_of}
use Rattle.accept.proofs.Refusals as check
use Rattle.accept.proofs.Soundness.{clash}
use Rattle.report.specs.Sizes.{max_width, max_cap, record_words}
use Rattle.report.specs.declared.LocalPosition.{LocalPosition}
use Rattle.report.specs.declared.Report.{Report}
use Rattle.fill.specs.Run.{answer, Call, bad_shape, bad_cap, verdict_of}
use Rattle.fill.specs.Faults.{ShapeFault, CapFault, Refused}
use Rattle.fill.specs.Faults as F
use Rattle.fill.proofs.Calls.{Shape, shape_kept, cap_kept, by_shape, by_cap, by_check}

-- ---- the tests and the rules

-- a test, given its rule's absence, and given its rule
lacking {ℓ} : {P : Type ℓ} (t : Bool) → (t ≡ true → P) → (P → ⊥) → t ≡ false
lacking true f n = absurd (n (f refl))
lacking false f n = refl

having {ℓ} : {P : Type ℓ} (t : Bool) → (t ≡ false → P → ⊥) → P → t ≡ true
having true f p = refl
having false f p = absurd (f refl p)

-- the first part of a conjunction that fails
first_fails {ℓ} : {G : Type ℓ} (p q : Bool) → (p && q) ≡ false → (p ≡ false → G) → (q ≡ false → G) → G
first_fails true q e f g = g e
first_fails false q e f g = f refl

module _ (c : Call) where
  shape_fault : bad_shape c ≡ true → ShapeFault c
  shape_fault e =
      first_fails (leb c.rows 8192) _ (not-true _ e) (λ z. F.rows (leb-false c.rows 8192 z)) λ e₁.
      first_fails (leb c.width max_width) _ e₁ (λ z. F.width (leb-false c.width max_width z)) λ e₂.
      first_fails (eqb (length c.values) (c.rows * c.width)) _ e₂ (λ z. F.array (eqb-false (length c.values) (c.rows * c.width) z)) λ e₃.
      F.stripe (leb-false (c.first + c.count) c.width e₃)

  no_shape_fault : bad_shape c ≡ false → ShapeFault c → ⊥
  no_shape_fault e = go (shape_kept c.rows c.width c.first c.count (length c.values) e)
    where
      go : Shape c.rows c.width c.first c.count (length c.values) → ShapeFault c → ⊥
      go s (F.rows h) = omega (arith, s.few_rows)
      go s (F.width h) = omega (arith, s.narrow)
      go s (F.array h) = h s.array
      go s (F.stripe h) = omega (arith, s.stripe)

  cap_fault : bad_cap c ≡ true → CapFault c
  cap_fault e =
      first_fails (leb c.cap max_cap) _ (not-true _ e) (λ z. F.cap (leb-false c.cap max_cap z)) λ e₁.
      F.buffer (eqb-false (length c.report) (c.cap * record_words) e₁)

  no_cap_fault : bad_cap c ≡ false → CapFault c → ⊥
  no_cap_fault e = go (cap_kept c.cap (length c.report) e)
    where
      go : (c.cap ≤ max_cap) × (length c.report ≡ c.cap * record_words) → CapFault c → ⊥
      go s (F.cap h) = omega (arith, s.0)
      go s (F.buffer h) = h s.1

  refusal_is : (n at k o : ℕ) → refusal n at ≡ refusal k o → Refused c n at → Refused c k o
  refusal_is n at k o e r =
      let i : n ≡ k = cc in
      let j : at ≡ o = cc in
      subst (λ m. Refused c m o) i (subst (λ m. Refused c n m) j r)

  refused_so : AreBytes c.code → (k at : ℕ) → verdict_of c ≡ refusal k at → Refused c k at
  refused_so bytes k at e = go (bad_shape c) refl (bad_cap c) refl
    where
      go : (b : Bool) → bad_shape c ≡ b → (d : Bool) → bad_cap c ≡ d → Refused c k at
      go true s d t = refusal_is 1 0 k at (sym (by_shape c s) ∙ e) (F.bad_shape (shape_fault s))
      go false s true t = refusal_is 2 0 k at (sym (by_cap c s t) ∙ e) (F.bad_cap (no_shape_fault s) (cap_fault t))
      go false s false t = F.bad_program (no_shape_fault s) (no_cap_fault t) ((check.refused_exactly c.code c.rows k at bytes).0 (sym (by_check c s t) ∙ e))

  so_refused : AreBytes c.code → (k at : ℕ) → Refused c k at → verdict_of c ≡ refusal k at
  so_refused bytes k at (F.bad_shape f) = by_shape c (having (bad_shape c) no_shape_fault f)
  so_refused bytes k at (F.bad_cap n f) = by_cap c (lacking (bad_shape c) shape_fault n) (having (bad_cap c) no_cap_fault f)
  so_refused bytes k at (F.bad_program n m r) =
      by_check c (lacking (bad_shape c) shape_fault n) (lacking (bad_cap c) cap_fault m) ∙ (check.refused_exactly c.code c.rows k at bytes).1 r

  -- each refusal of a run is given exactly when document 01 says
  pub refused_exactly : AreBytes c.code → (k at : ℕ) → (verdict_of c ≡ refusal k at) ↔ Refused c k at
  refused_exactly bytes k at = (refused_so bytes k at, so_refused bytes k at)

-- ---- what an accepted run is

pub record Fit (c : Call) : Type 0 where
  pub shape : Shape c.rows c.width c.first c.count (length c.values)
  pub few : c.cap ≤ max_cap
  pub buffer : length c.report ≡ c.cap * record_words
  pub program : check_of c.code c.rows ≡ accepted

pub accepted_fit : (c : Call) → verdict_of c ≡ accepted → Fit c
accepted_fit c e = go (bad_shape c) refl (bad_cap c) refl
  where
    go : (b : Bool) → bad_shape c ≡ b → (d : Bool) → bad_cap c ≡ d → Fit c
    go true s d t = absurd (clash 1 0 (sym (by_shape c s) ∙ e))
    go false s true t = absurd (clash 2 0 (sym (by_cap c s t) ∙ e))
    go false s false t =
        let k = cap_kept c.cap (length c.report) t in
        record { shape = shape_kept c.rows c.width c.first c.count (length c.values) s; few = k.0; buffer = k.1; program = sym (by_check c s t) ∙ e }

pub fit_accepted : (c : Call) → Fit c → verdict_of c ≡ accepted
fit_accepted c f = by_check c shape_ok cap_ok ∙ f.program
  where
    shape_ok : bad_shape c ≡ false
    shape_ok =
        rw (le-leb c.rows 8192 f.shape.few_rows, le-leb c.width max_width f.shape.narrow, eq-eqb (length c.values) (c.rows * c.width) f.shape.array, le-leb (c.first + c.count) c.width f.shape.stripe)

    cap_ok : bad_cap c ≡ false
    cap_ok = rw (le-leb c.cap max_cap f.few, eq-eqb (length c.report) (c.cap * record_words) f.buffer)

-- ---- one answer: what `run` promises of its answer leaves one value of its type

pub one-ran : (r s : Result (Report LocalPosition) RefusedAt) → answer r ≡ answer s → r ≡ s
one-ran (Ok a) (Ok b) e = let i : a ≡ b = cc in ap Ok i
one-ran (Ok a) (Err q) e = cc
one-ran (Err p) (Ok b) e = cc
one-ran (Err p) (Err q) e =
    let i : p.refusal ≡ q.refusal = number_names_one p.refusal q.refusal (cc) in
    let j : p.offset ≡ q.offset = cc in
    λ k. Err (record { refusal = i k; offset = j k })
