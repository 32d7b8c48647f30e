-- Laws of tests that are conjunctions and alternatives. Assumes nothing.
use Prim.Native.Nat.{ℕ}
use mathlib.Core.Path.{◌≡◌, refl}
use mathlib.Core.Bool.{Bool, true, false, ◌&&◌, ◌||◌}
use native.Mathlib.Omega.{arith}

pub differ : (t : Bool) → t ≡ true → t ≡ false → ⊥
differ t e f = let z : ◌≡◌ {A = ℕ} 0 1 = cc in omega arith

-- a test that does not hold
pub fails : (t : Bool) → (t ≡ true → ⊥) → t ≡ false
fails true g = absurd (g refl)
fails false g = refl

pub both : (p q : Bool) → (p && q) ≡ true → (p ≡ true) × (q ≡ true)
both true q e = (refl, e)
both false q e = absurd (differ false e refl)

pub neither : (p q : Bool) → (p || q) ≡ false → (p ≡ false) × (q ≡ false)
neither true q e = absurd (differ true refl e)
neither false q e = (refl, e)

pub either {ℓ} : {G : Type ℓ} (p q : Bool) → (p || q) ≡ true → (p ≡ true → G) → (q ≡ true → G) → G
either true q e f g = f refl
either false q e f g = g e

pub or-first : (p q : Bool) → p ≡ true → (p || q) ≡ true
or-first p q e = rw e

pub or_second : (p q : Bool) → q ≡ true → (p || q) ≡ true
or_second true q e = refl
or_second false q e = e

pub and_second : (p q : Bool) → q ≡ false → (p && q) ≡ false
and_second true q e = e
and_second false q e = refl
