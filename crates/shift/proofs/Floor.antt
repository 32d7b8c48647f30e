-- The `floor` of specs/Shift.antt is the floor: the one integer q with q * m ≤ z < (q + 1) * m. Assumes nothing.
use mathlib.Core.Path.{◌≡◌, sym, ap, ◌∙◌}
use Prim.Native.Nat.{ℕ, zero, suc, ◌+◌, ◌-◌, ◌*◌, ◌/◌, ◌≤◌, ◌<◌}
use native.Mathlib.Nat.{suc-mul, div-mul-le_self, lt-div-mul-add, div-eq_of_lt-le, zero-mul}
use native.Mathlib.Numerals.{add-one}
use native.Mathlib.Omega.{arith}
use lib.Dec.{leb→le, le→leb, ltb→lt, lt→ltb}
use lib.IntN.{ℤ, pos, negsuc, suc_ℤ, neg_ℤ, ◌*ℤ◌}
use lib.Signed.{◌≤ℤ◌, ◌<ℤ◌}
use Rattle.shift.specs.Shift.{floor}

pub record IsFloor (z : ℤ) (m : ℕ) (q : ℤ) : Type 0 where
  pub low : (q *ℤ pos m) ≤ℤ z
  pub high : z <ℤ (suc_ℤ q *ℤ pos m)

neg : (t : ℕ) → 0 < t → neg_ℤ (pos t) ≡ negsuc (t - 1)
neg zero h = absurd (omega arith)
neg (suc t) h = ap negsuc (omega arith)

-- a negative product
neg_mul : (k : ℕ) {m : ℕ} → 0 < m → negsuc k *ℤ pos m ≡ negsuc (k * m + m - 1)
neg_mul k {m} h = neg (suc k * m) (omega (arith, suc-mul k m)) ∙ ap (λ (t : ℕ). negsuc (t - 1)) (suc-mul k m)

above : (k a : ℕ) {m : ℕ} → 0 < m → k * m ≤ a → negsuc a <ℤ (suc_ℤ (negsuc k) *ℤ pos m)
above zero a h l = record { lt = tt }
above (suc k) a {m} h l = rw (neg_mul k h) (record { lt = lt→ltb (k * m + m - 1) a (omega (arith, suc-mul k m)) })

pub floor_is : (z : ℤ) {m : ℕ} → 0 < m → IsFloor z m (floor z m)
floor_is (pos a) {m} h = record { low = record { le = le→leb (a / m * m) a (div-mul-le_self a m) }; high = record { lt = lt→ltb a (suc (a / m) * m) (omega (arith, suc-mul (a / m) m, lt-div-mul-add {a = a} h)) } }
floor_is (negsuc a) {m} h = record { low = rw (neg_mul (a / m) h) (record { le = le→leb a (a / m * m + m - 1) (omega (arith, lt-div-mul-add {a = a} h)) }); high = above (a / m) a h (div-mul-le_self a m) }

from_above : (k a : ℕ) {m : ℕ} → 0 < m → negsuc a <ℤ (suc_ℤ (negsuc k) *ℤ pos m) → k * m ≤ a
from_above zero a {m} h i = omega (arith, zero-mul m)
from_above (suc k) a {m} h i = let l = ltb→lt (k * m + m - 1) a (rw (neg_mul k h) at i).lt in omega (arith, suc-mul k m)

pub floor_only : (z q : ℤ) {m : ℕ} → 0 < m → IsFloor z m q → q ≡ floor z m
floor_only (pos a) (pos k) {m} h i = ap pos (sym (div-eq_of_lt-le m (leb→le (k * m) a i.low.le) (rw add-one (ltb→lt a (suc k * m) i.high.lt))))
floor_only (pos a) (negsuc zero) {m} h i = absurd (omega (arith, zero-mul m, ltb→lt a (0 * m) i.high.lt))
floor_only (pos a) (negsuc (suc k)) {m} h i = absurd (rw (neg_mul k h) at i.high).lt
floor_only (negsuc a) (pos k) {m} h i = absurd i.low.le
floor_only (negsuc a) (negsuc k) {m} h i =
    let l = leb→le a (k * m + m - 1) (rw (neg_mul k h) at i.low).le in
    let u : a < (k + 1) * m = rw (add-one, suc-mul) (omega arith) in
    ap negsuc (sym (div-eq_of_lt-le m (from_above k a h i.high) u))
