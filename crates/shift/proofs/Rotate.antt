-- A rotation of a b-bit word to the right by n. Assumes nothing.
use mathlib.Core.Path.{◌≡◌, ap, ◌∙◌}
use Prim.Native.Nat.{ℕ, zero, suc, ◌+◌, ◌-◌, ◌*◌, ◌/◌, ◌%◌, ◌^◌, ◌<◌}
use native.Mathlib.Nat.{mod-eq_of_lt, mod-one, div-one, mod_self, mul-one, zero-mul, sub-zero, mul-mod_left, add-zero, add_comm}
use native.Mathlib.Omega.{arith}
use lib.Bits.{bit_and, bit_or, or_shifted_r, or_self, and_mask}
use lib.Pow.{shr_lt, shl-shr, mod-pow-add}

-- a left shift in n + k bits keeps the n lowest bits
shl-mod : (x n k : ℕ) → x * 2 ^ k % 2 ^ (n + k) ≡ x % 2 ^ n * 2 ^ k
shl-mod x n k = mod-pow-add (x * 2 ^ k) n k ∙ rw (shl-shr, mul-mod_left, add-zero)

-- the two parts have no bit in common
parts : (x n k : ℕ) → x < 2 ^ (k + n) → bit_or (x / 2 ^ n) (x * 2 ^ k % 2 ^ (n + k)) ≡ x / 2 ^ n + x % 2 ^ n * 2 ^ k
parts x n k f = ap (bit_or (x / 2 ^ n)) (shl-mod x n k) ∙ or_shifted_r (x % 2 ^ n) k (x / 2 ^ n) (shr_lt k n f) ∙ add_comm _ _

-- as two shifts and an or, at each width of b bits: at an amount of 0 the left shift is by 0 too, and not by the whole width
pub two_shifts : (b n x : ℕ) → n < b → x < 2 ^ b → bit_or (x / 2 ^ n) (x * 2 ^ ((b - n) % b) % 2 ^ b) ≡ x / 2 ^ n + x % 2 ^ n * 2 ^ (b - n)
two_shifts b zero x h f =
    let e : (b - 0) % b ≡ 0 = rw (sub-zero b) (mod_self b) in
    rw (e, mul-one, div-one, mod-eq_of_lt f, mod-one, zero-mul, add-zero) (or_self x)
two_shifts b (suc m) x h f =
    let e : (b - suc m) % b ≡ b - suc m = mod-eq_of_lt (omega arith) in
    let q : suc m + (b - suc m) ≡ b = omega arith in
    let q' : (b - suc m) + suc m ≡ b = omega arith in
    rw e (rw q at (parts x (suc m) (b - suc m) (rw q' f)))

-- at a width of 2 ^ k bits the left shift's amount may be masked instead
pub rotated : (k n x : ℕ) → n < 2 ^ k → x < 2 ^ 2 ^ k → bit_or (x / 2 ^ n) (x * 2 ^ bit_and (2 ^ k - n) (2 ^ k - 1) % 2 ^ 2 ^ k) ≡ x / 2 ^ n + x % 2 ^ n * 2 ^ (2 ^ k - n)
rotated k n x h f = rw (and_mask (2 ^ k - n) k) (two_shifts (2 ^ k) n x h f)
