-- Two's complement, once for every width: a signed value that is passed on is read as `to_z w (of_z w z)`, which is z. Assumes nothing.
use mathlib.Core.Path.{◌≡◌, refl, sym, ap, ◌∙◌}
use Prim.Native.Nat.{ℕ, ◌^◌, ◌<◌}
use lib.IntN.{ℤ}
use lib.Signed.{shr_z, mag_shr}
use mir.Syntax.{Width}
use mir.Val.{SFits, bits, to_z, of_z}
use mir.ValLaws.{to_z-of_z, to_z-Fits, sfits_le}
use Rattle.shift.specs.Shift.{sar}

-- a word's way through the three steps of an arithmetic shift: to the signed type, over m, and back
pub through : (w : Width) (x m : ℕ) {r : ℕ} {t f : ℤ} → SFits w t → SFits w f → t ≡ to_z w x → f ≡ shr_z (to_z w (of_z w t)) m → r ≡ of_z w (to_z w (of_z w f)) → r ≡ of_z w (shr_z (to_z w x) m)
through w x m {r} {t} {f} st sf p q e = e ∙ ap (of_z w) (to_z-of_z w f sf ∙ q ∙ ap (λ (y : ℤ). shr_z y m) (to_z-of_z w t st ∙ p))

-- the three steps in one
pub shifted : (w : Width) (n x : ℕ) → x < 2 ^ bits w → of_z w (to_z w (of_z w (shr_z (to_z w (of_z w (to_z w x))) (2 ^ n)))) ≡ sar w n x
unfolding sar
shifted w n x h =
    let s : SFits w (to_z w x) = to_z-Fits w x (record { fits = h }) in
    let t = to_z w x in
    let f = shr_z t (2 ^ n) in
    through w x (2 ^ n) {f = f} s (sfits_le (mag_shr t (2 ^ n)) s) refl (ap (λ (y : ℤ). shr_z y (2 ^ n)) (sym (to_z-of_z w t s))) (ap (λ (y : ℤ). of_z w (to_z w (of_z w (shr_z y (2 ^ n))))) (to_z-of_z w t s))
