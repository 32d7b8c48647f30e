-- What `ends_close` and `all_below` test. Assumes nothing.
use Rattle.std.specs.Prelude.{◌≡◌, ℕ, zero, suc, ◌+◌, ◌-◌, ◌<◌, List, [], ◌∷◌, Bool, true, false, length, get_or, eqb, ltb}
use Rattle.std.specs.List.{list_all}
use Rattle.std.specs.List.Sorted.{IsNonDecreasing}
use Rattle.std.proofs.Common.{◌&&◌, refl, sym, ap, ◌∙◌, arith, add-one}
use mathlib.Core.Logic.{◌⊎◌, inl, inr}
use borrow.Author.Tests.{eq-eqb, ne_eqb}
use Rattle.common.specs.Lists.{all_below}
use Rattle.scratch.specs.Accept.{closes}
use Rattle.scratch.specs.Working.Arrays.{start}
use Rattle.scratch.proofs.Cut.{close_at, close_last}
use Rattle.scratch.proofs.Refusals.{unclosed}

past_last : (ends : List ℕ) → start 0 ends (length ends) ≡ get_or ends (length ends - 1) 0
past_last [] = refl
past_last (end ∷ ends) = let e : length ends ≡ suc (length ends) - 1 = omega arith in ap (λ (k : ℕ). get_or (end ∷ ends) k 0) e

-- where the ends do not fall, the last decides
pub ends_rise : (count : ℕ) (ends : List ℕ) → IsNonDecreasing ends → eqb (get_or ends (length ends - 1) 0) count ≡ closes 0 count ends
ends_rise count ends rise = go (closes 0 count ends) refl
  where
    no : ((k : ℕ) × (k < length ends) × (get_or ends k 0 < start 0 ends k)) ⊎ (start 0 ends (length ends) ≡ count → ⊥) → eqb (get_or ends (length ends - 1) 0) count ≡ false
    no (inl (zero, l, f)) = absurd (omega arith)
    no (inl (suc k, l, f)) = absurd (omega (arith, rise k (suc k) 0 (omega arith) l))
    no (inr f) = ne_eqb (get_or ends (length ends - 1) 0) count (λ q. f (past_last ends ∙ q))

    go : (b : Bool) → closes 0 count ends ≡ b → eqb (get_or ends (length ends - 1) 0) count ≡ b
    go true e = eq-eqb (get_or ends (length ends - 1) 0) count (sym (past_last ends) ∙ close_last 0 count ends e)
    go false e = no (unclosed 0 count ends e)

-- where one falls, they do not close
pub ends_fall : (count : ℕ) (ends : List ℕ) (k : ℕ) → k + 1 < length ends → get_or ends (k + 1) 0 < get_or ends k 0 → false ≡ closes 0 count ends
ends_fall count ends k l f = go (closes 0 count ends) refl
  where
    go : (b : Bool) → closes 0 count ends ≡ b → false ≡ b
    go true e =
        let n : get_or ends (suc k) 0 < get_or ends k 0 = rw add-one at f in
        absurd (omega (arith, close_at 0 count ends (suc k) e (omega arith)))
    go false e = refl

pub all_is : (n : ℕ) (ws : List ℕ) → list_all (λ w. ltb w n) ws ≡ all_below n ws
all_is n [] = refl
all_is n (w ∷ ws) = ap (λ b. ltb w n && b) (all_is n ws)
