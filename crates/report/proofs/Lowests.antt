-- The lowest failing column: what it is, and that there is one such. Assumes nothing.
use mathlib.Core.Path.{◌≡◌, refl, sym, ap, ap₂, ◌∙◌}
use mathlib.Core.Logic.{⊎_elim}
use mathlib.Core.List.{List, [], ◌∷◌, ◌++◌}
use Prim.Native.Nat.{ℕ, zero, suc, ◌<◌}
use native.Mathlib.Nat.{eq-or-lt_of_le, le_of_suc-le-suc, not-suc-le-zero, le_refl}
use native.Mathlib.Decide.{dec_lt}
use native.Mathlib.Omega.{arith}
use Rattle.report.specs.declared.record.Failure.{Failure}
use Rattle.report.specs.Records.{Lowest, clean, at, or_else, fails_at, lowest}

-- ---- the lowest failing column, by what it is

abbrev pub IsLowest : (ℕ → List Failure) → ℕ → Lowest → Type 0
IsLowest v n clean = (k : ℕ) → k < n → v k ≡ []
IsLowest v n (at p fs) = (p < n) × (v p ≡ fs) × (fs ≡ [] → ⊥) × ((k : ℕ) → k < p → v k ≡ [])

pub cons-nil : (f : Failure) (fs : List Failure) → f ∷ fs ≡ [] → ⊥
cons-nil f fs e = let z : ◌≡◌ {A = ℕ} 0 1 = cc in omega arith

pub snoc_nil : (fs : List Failure) (f : Failure) → fs ++ f ∷ [] ≡ [] → ⊥
snoc_nil [] f e = cons-nil f [] e
snoc_nil (g ∷ fs) f e = cons-nil g (fs ++ f ∷ []) e

pub lowest_is : (v : ℕ → List Failure) (n : ℕ) → IsLowest v n (lowest v n)
unfolding lowest
lowest_is v zero = λ k h. absurd (not-suc-le-zero h)
lowest_is v (suc n) = go (lowest v n) (v n) refl (lowest_is v n)
  where
    go : (l : Lowest) (fs : List Failure) → v n ≡ fs → IsLowest v n l → IsLowest v (suc n) (or_else l (fails_at n fs))
    go clean [] e h = λ k l. ⊎_elim (λ q. ap v q ∙ e) (λ l'. h k l') (eq-or-lt_of_le (le_of_suc-le-suc l))
    go clean (f ∷ fs) e h = (le_refl (suc n), e, cons-nil f fs, h)
    go (at p gs) fs e h = (omega arith, h.1, h.2, h.3)

-- there is one such
pub lowest_only : (v : ℕ → List Failure) (n : ℕ) (l m : Lowest) → IsLowest v n l → IsLowest v n m → l ≡ m
lowest_only v n clean clean h k = refl
lowest_only v n clean (at p fs) h k = absurd (k.2 (sym k.1 ∙ h p k.0))
lowest_only v n (at p fs) clean h k = absurd (h.2 (sym h.1 ∙ k p h.0))
lowest_only v n (at p fs) (at q gs) h k = ap₂ at same (sym h.1 ∙ ap v same ∙ k.1)
  where
    same : p ≡ q
    same = go (dec_lt p q) (dec_lt q p)
      where
        go : Dec (p < q) → Dec (q < p) → p ≡ q
        go (yes l) d = absurd (h.2 (sym h.1 ∙ k.3 p l))
        go (no a) (yes l) = absurd (k.2 (sym k.1 ∙ h.3 q l))
        go (no a) (no b) = omega arith

-- ---- what agrees below n has the same lowest

pub lowest_ext : (v w : ℕ → List Failure) (n : ℕ) → ((k : ℕ) → k < n → v k ≡ w k) → lowest v n ≡ lowest w n
lowest_ext v w n e = lowest_only w n (lowest v n) (lowest w n) (go (lowest v n) (lowest_is v n)) (lowest_is w n)
  where
    go : (l : Lowest) → IsLowest v n l → IsLowest w n l
    go clean h = λ k l. sym (e k l) ∙ h k l
    go (at p fs) h = (h.0, sym (e p h.0) ∙ h.1, h.2, λ k l. sym (e k (omega arith)) ∙ h.3 k l)

pub lowest_clean : (v : ℕ → List Failure) (n : ℕ) → ((k : ℕ) → k < n → v k ≡ []) → lowest v n ≡ clean
lowest_clean v n e = lowest_only v n (lowest v n) clean (lowest_is v n) e
