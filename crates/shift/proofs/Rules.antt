-- Document 01's sentences on the shifts, as theorems about the definitions, over the width. Assumes nothing.
use mathlib.Core.Path.{◌≡◌, sym, ap, ◌∙◌}
use Prim.Native.Nat.{ℕ, suc, ◌+◌, ◌-◌, ◌*◌, ◌/◌, ◌%◌, ◌^◌, ◌≤◌, ◌<◌}
use native.Mathlib.Nat.{zero-div, add_comm, mul_assoc, mod-lt, mod-eq_of_lt, mod-eq-sub-mod}
use native.Mathlib.Decide.{dec_lt}
use native.Mathlib.Omega.{arith}
use lib.Arith.{mul_pred, digits_div, digits_lt}
use lib.Bits.{shifted_even}
use lib.IntN.{negsuc}
use lib.Pow.{pow_pos, pow-add, ones_lt, suc_ones, high, low, shr-shr, shl-shr, shr_lt, shr_le}
use lib.Signed.{mag_shr}
use mir.Syntax.{Width, w32}
use mir.Val.{bits, hbits, to_z}
use mir.ValLaws.{to_z_pos, to_z-neg, to_z-Fits, to_z-of_z, of_z_fits, sfits_le, pow-bits}
use Rattle.common.specs.Bits.{bit_at}
use Rattle.common.specs.Halves.{halves}
use Rattle.common.proofs.Digits.{bit-mod}
use Rattle.common.proofs.HalfLaws.{halves_high, halves_low}
use Rattle.shift.specs.Shift.{floor, sll, slr, sar, rotr}
use Rattle.shift.specs.Variant.{shift_word}
use Rattle.shift.specs.declared.ShiftVariant.TheVariants.{Sll32, Srl32, Sra32, Rotr32}
use Rattle.shift.proofs.Floor.{IsFloor, floor_is}

-- ---- the arithmetic shift

-- the answer, read as two's complement, is the floor of the word, read so, over 2 ^ n
pub sar_floor : (w : Width) (n x : ℕ) → x < 2 ^ bits w → IsFloor (to_z w x) (2 ^ n) (to_z w (sar w n x))
unfolding sar
sar_floor w n x h =
    let s = to_z-Fits w x (record { fits = h }) in
    rw (to_z-of_z w (floor (to_z w x) (2 ^ n)) (sfits_le (mag_shr (to_z w x) (2 ^ n)) s)) (floor_is (to_z w x) (pow_pos n))

-- zero is exact, and so is the minimum: -2^(w-1) over 2^n is -2^(w-1-n)
pub sar_zero : (w : Width) (n : ℕ) → sar w n 0 ≡ 0
unfolding sar
sar_zero w n = rw (to_z_pos w 0 (pow_pos (hbits w))) (zero-div (2 ^ n))

least : (w : Width) → to_z w (2 ^ hbits w) ≡ negsuc (2 ^ hbits w - 1)
least w =
    let e : 2 ^ hbits w ≡ 2 ^ bits w - suc (2 ^ hbits w - 1) = omega (arith, pow-bits w, pow_pos (hbits w)) in
    ap (to_z w) e ∙ to_z-neg w (2 ^ hbits w - 1) (ones_lt (hbits w))

ones-div : (h n : ℕ) → n ≤ h → (2 ^ h - 1) / 2 ^ n ≡ 2 ^ (h - n) - 1
ones-div h n l =
    let q : (h - n) + n ≡ h = omega arith in
    let s : 2 ^ h ≡ 2 ^ (h - n) * 2 ^ n = rw (← pow-add, q) in
    rw (s, mul_pred (pow_pos (h - n)) (pow_pos n)) (digits_div (2 ^ (h - n) - 1) (ones_lt n))

pub sar_minimum : (w : Width) (n : ℕ) → n ≤ hbits w → sar w n (2 ^ hbits w) ≡ 2 ^ bits w - 2 ^ (hbits w - n)
unfolding sar
sar_minimum w n h = rw (least w, ones-div (hbits w) n h, suc_ones)

-- ---- bit by bit

-- to the left: bit i comes to bit n + i, and zeros come in below
pub sll_bit : (w : Width) (n x i : ℕ) → n + i < bits w → bit_at (sll w n x) (n + i) ≡ bit_at x i
unfolding bit_at
sll_bit w n x i h = bit-mod (bits w) (x * 2 ^ n) (n + i) h ∙ ap (λ (t : ℕ). t % 2) (sym (shr-shr (x * 2 ^ n) n i) ∙ ap (λ (t : ℕ). t / 2 ^ i) (shl-shr x n))

pub sll_zeros : (w : Width) (n x i : ℕ) → i < n → n < bits w → bit_at (sll w n x) i ≡ 0
unfolding bit_at
sll_zeros w n x i h l =
    let e : n ≡ suc (n - suc i) + i = omega arith in
    let split : x * 2 ^ n ≡ x * 2 ^ suc (n - suc i) * 2 ^ i = ap (λ (t : ℕ). x * 2 ^ t) e ∙ ap (λ (t : ℕ). x * t) (pow-add 2 (suc (n - suc i)) i) ∙ sym (mul_assoc x (2 ^ suc (n - suc i)) (2 ^ i)) in
    bit-mod (bits w) (x * 2 ^ n) i (omega arith)
    ∙ ap (λ (t : ℕ). t % 2) (ap (λ (t : ℕ). t / 2 ^ i) split ∙ shl-shr (x * 2 ^ suc (n - suc i)) i) ∙ shifted_even x (n - suc i)

-- to the right: bit n + i comes to bit i. The word is below 2 ^ bits w, so zeros come in above
pub slr_bit : (w : Width) (n x i : ℕ) → bit_at (slr w n x) i ≡ bit_at x (n + i)
unfolding bit_at
slr_bit w n x i = ap (λ (t : ℕ). t % 2) (shr-shr x n i)

-- rotated: bit i of the answer is bit (i + n) mod the width
bit_high : (i k y : ℕ) → k ≤ i → bit_at (y / 2 ^ k) (i - k) ≡ bit_at y i
unfolding bit_at
bit_high i k y h = let e : k + (i - k) ≡ i = omega arith in ap (λ (t : ℕ). t % 2) (rw e at (shr-shr y k (i - k)))

module _ (w : Width) (n x i : ℕ) (hn : n < bits w) (hx : x < 2 ^ bits w) (hi : i < bits w) where
  whole : x / 2 ^ n < 2 ^ (bits w - n)
  whole = let e : (bits w - n) + n ≡ bits w = omega arith in shr_lt (bits w - n) n (rw e hx)

  -- the two parts of the result
  lower : rotr w n x % 2 ^ (bits w - n) ≡ x / 2 ^ n
  unfolding rotr
  lower = rw add_comm (low (x % 2 ^ n) (bits w - n) whole)

  upper : rotr w n x / 2 ^ (bits w - n) ≡ x % 2 ^ n
  unfolding rotr
  upper = rw add_comm (high (x % 2 ^ n) (bits w - n) whole)

  by : Dec (i < bits w - n) → bit_at (rotr w n x) i ≡ bit_at x ((i + n) % bits w)
  by (yes h) =
      let e : (i + n) % bits w ≡ n + i = mod-eq_of_lt (omega arith) ∙ add_comm i n in
      sym (bit-mod (bits w - n) (rotr w n x) i h) ∙ ap (λ (t : ℕ). bit_at t i) lower ∙ slr_bit w n x i ∙ sym (ap (bit_at x) e)
  by (no h) =
      let g : bits w - n ≤ i = omega arith in
      let l : i - (bits w - n) < n = omega arith in
      let a : (i + n) - bits w ≡ i - (bits w - n) = omega arith in
      let e : (i + n) % bits w ≡ i - (bits w - n) = mod-eq-sub-mod (omega arith) ∙ mod-eq_of_lt (omega arith) ∙ a in
      sym (bit_high i (bits w - n) (rotr w n x) g) ∙ ap (λ (t : ℕ). bit_at t (i - (bits w - n))) upper ∙ bit-mod n x (i - (bits w - n)) l ∙ sym (ap (bit_at x) e)

  pub rotr_bit : bit_at (rotr w n x) i ≡ bit_at x ((i + n) % bits w)
  rotr_bit = by (dec_lt i (bits w - n))

-- ---- half-words

-- a shifted word is a word
sll-lt : (w : Width) (n x : ℕ) → sll w n x < 2 ^ bits w
sll-lt w n x = mod-lt (x * 2 ^ n) (pow_pos (bits w))

slr-lt : (w : Width) (n x : ℕ) → x < 2 ^ bits w → slr w n x < 2 ^ bits w
slr-lt w n x h = omega (arith, shr_le x n)

sar-lt : (w : Width) (n x : ℕ) → x < 2 ^ bits w → sar w n x < 2 ^ bits w
unfolding sar
sar-lt w n x h = (of_z_fits w (floor (to_z w x) (2 ^ n)) (sfits_le (mag_shr (to_z w x) (2 ^ n)) (to_z-Fits w x (record { fits = h })))).fits

rotr-lt : (w : Width) (n x : ℕ) → n < bits w → x < 2 ^ bits w → rotr w n x < 2 ^ bits w
unfolding rotr
rotr-lt w n x hn hx =
    let e : (bits w - n) + n ≡ bits w = omega arith in
    let f : n + (bits w - n) ≡ bits w = omega arith in
    let below = digits_lt {q = x % 2 ^ n} {m = 2 ^ n} {r = x / 2 ^ n} {c = 2 ^ (bits w - n)} (mod-lt x (pow_pos n)) (shr_lt (bits w - n) n (rw e hx)) in
    omega (arith, below, sym (pow-add 2 n (bits w - n)) ∙ ap (λ (t : ℕ). 2 ^ t) f)

-- each half of the answer is the shift of its own half
abbrev pub ByHalves : (ℕ → ℕ) → (ℕ → ℕ) → Type 0
ByHalves g f = (x : ℕ) → (g x / 2 ^ 32 ≡ f (x / 2 ^ 32)) × (g x % 2 ^ 32 ≡ f (x % 2 ^ 32))

by_halves : (f : ℕ → ℕ) → ((x : ℕ) → x < 2 ^ 32 → f x < 2 ^ 32) → ByHalves (λ x. halves 32 (λ half. f (half x))) f
by_halves f h x =
    let l = h (x % 2 ^ 32) (mod-lt x (pow_pos 32)) in
    (halves_high 32 (λ half. f (half x)) l, halves_low 32 (λ half. f (half x)) l)

pub sll32_halves : (n : ℕ) → ByHalves (shift_word Sll32 n) (sll w32 n)
sll32_halves n = by_halves (sll w32 n) (λ x h. sll-lt w32 n x)

pub srl32_halves : (n : ℕ) → ByHalves (shift_word Srl32 n) (slr w32 n)
srl32_halves n = by_halves (slr w32 n) (slr-lt w32 n)

pub sra32_halves : (n : ℕ) → ByHalves (shift_word Sra32 n) (sar w32 n)
sra32_halves n = by_halves (sar w32 n) (sar-lt w32 n)

pub rotr32_halves : (n : ℕ) → n < 32 → ByHalves (shift_word Rotr32 n) (rotr w32 n)
rotr32_halves n l = by_halves (rotr w32 n) (λ x h. rotr-lt w32 n x l h)
