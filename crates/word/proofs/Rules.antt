-- Document 01's "Word rules" and its assertions, sentence by sentence, as theorems about the definitions. Assumes nothing.
use Rattle.std.proofs.Common.{◌≡◌, ℕ, zero, suc, ◌+◌, ◌-◌, ◌*◌, ◌/◌, ◌%◌, ◌^◌, ◌<◌, ◌≤◌, Bool, true, false, cond, not, eqb, ltb, ◌↔◌, List, [], ◌∷◌, ◌++◌, reverse, length, get_or, sym, refl, ap, ◌∙◌, ⊎_elim, lt_of_le_of_lt, le_of_lt, mod-lt, mod-eq_of_lt, eq-or-lt_of_le, mul-le-mul_left, mul-lt-mul_of_pos_right, div-add-mod', add-one, arith, lit<, pow_pos, pow-add, shr_lt, ltb-true, lt-ltb, eq-eqb, ne_eqb, eqb-true, le-leb, leb-true}
use mathlib.Core.Bool.{and-eq-true_iff}
use mathlib.Core.List.{reverse-cons}
use native.Mathlib.Nat.{zero-div, div-div-eq-div-mul, mod-add-mod, add-mod-mod, add-mod_right}
use borrow.Author.Tests.{eqb-false, not-true}
use lib.Arith.{digits_div, digits_mod}
use lib.Bits.{bit_and, bit_or, bit_xor}
use lib.ListN.{length-reverse, get_or-append}
use lib.Pow.{split}
use lib.Seq.{get_or-append_seam}
use Rattle.common.specs.Bits.{bit, bit_at}
use Rattle.common.specs.Halves.{halves}
use Rattle.common.proofs.HalfLaws.{halves_high, halves_low}
use Rattle.common.proofs.Digits.{word_bit, word_lt, bit-mod, bit_at_lt, digits, bit-and, bit-or, bit-xor}
use Rattle.word.specs.Arithmetic.{sum_word, carry_into, carry_word, sum_halves, carry_halves, difference_word, borrow_from, borrow_word, high_word, low_word}
use Rattle.word.specs.Bitwise.{fax_word, select_word, xor_all}
use Rattle.word.specs.Hints.{quotient_of, remainder_of, zeros_above}
use Rattle.word.specs.Assertions.{eq_fails, eq_cond_fails, zero_fails, non_zero_fails, false_fails, true_fails}
use Rattle.word.proofs.Adder.{by_test, carry_step, carry_lt, carry_first}

-- ---- add and subtract

bit_true : (t : Bool) → bit t ≡ 1 → t ≡ true
bit_true true e = refl
bit_true false e = absurd (omega arith)

borrow_lt : (a b c i : ℕ) → borrow_from a b c i < 2
unfolding borrow_from
borrow_lt a b c i = by_test (ltb (a % 2 ^ i) (b % 2 ^ i + c)) (λ n. n < 2) (λ e. lit< tt) (λ e. lit< tt)

-- carry bit i is 1 exactly when (a mod 2^(i+1)) + (b mod 2^(i+1)) + c is at least 2^(i+1)
pub carry_rule : (w a b c i : ℕ) → i < w → (bit_at (carry_word w a b c) i ≡ 1) ↔ (2 ^ (i + 1) ≤ a % 2 ^ (i + 1) + b % 2 ^ (i + 1) + c)
unfolding carry_word
carry_rule w a b c i l =
    let e = word_bit w i (λ j. carry_into a b c (j + 1)) (λ j. carry_lt a b c (j + 1)) l in
    (λ h. leb-true _ _ (bit_true _ (sym e ∙ h)), λ h. e ∙ ap bit (le-leb _ _ h))

-- the carry below bit i: c below bit 0, and below another the carry bit before it
abbrev pub carry_below : (w a b c i : ℕ) → ℕ
carry_below w a b c zero = c
carry_below w a b c (suc i) = bit_at (carry_word w a b c) i

below_into : (w a b c i : ℕ) → i < w → c < 2 → carry_below w a b c i ≡ carry_into a b c i
unfolding carry_word
below_into w a b c zero l h = sym (carry_first a b c h)
below_into w a b c (suc i) l h =
    word_bit w i (λ j. carry_into a b c (j + 1)) (λ j. carry_lt a b c (j + 1)) (omega arith) ∙ ap (carry_into a b c) (add-one i)

-- carry bit i is 1 exactly when at least two of the three are: bit i of a, bit i of b and the carry below
pub two_of_three_rule : (w a b c i : ℕ) → i < w → c < 2 → (bit_at (carry_word w a b c) i ≡ 1) ↔ (2 ≤ bit_at a i + bit_at b i + carry_below w a b c i)
unfolding carry_word
two_of_three_rule w a b c i l h =
    let e = word_bit w i (λ j. carry_into a b c (j + 1)) (λ j. carry_lt a b c (j + 1)) l in
    let half : bit_at (carry_word w a b c) i ≡ (bit_at a i + bit_at b i + carry_below w a b c i) / 2 =
    e ∙ ap (carry_into a b c) (add-one i) ∙ carry_step a b c i h ∙ ap (λ (n : ℕ). (bit_at a i + bit_at b i + n) / 2) (sym (below_into w a b c i l h)) in
    let below : carry_below w a b c i < 2 = omega (arith, below_into w a b c i l h, carry_lt a b c i) in
    (λ k. omega (arith, half), λ k. omega (arith, half, bit_at_lt a i, bit_at_lt b i, below))

-- borrow bit i is 1 exactly when a mod 2^(i+1) is less than (b mod 2^(i+1)) + c
pub borrow_rule : (w a b c i : ℕ) → i < w → (bit_at (borrow_word w a b c) i ≡ 1) ↔ (a % 2 ^ (i + 1) < b % 2 ^ (i + 1) + c)
unfolding borrow_word
borrow_rule w a b c i l =
    let e = word_bit w i (λ j. borrow_from a b c (j + 1)) (λ j. borrow_lt a b c (j + 1)) l in
    (λ h. ltb-true _ _ (bit_true _ (sym e ∙ h)), λ h. e ∙ ap bit (lt-ltb _ _ h))

-- the difference is a - b - c modulo 2^w: with b and c added back it is a
pub difference_rule : (w a b c : ℕ) → a < 2 ^ w → b < 2 ^ w → c < 2 → (difference_word w a b c + b + c) % 2 ^ w ≡ a
unfolding difference_word
difference_rule w a b c ha hb hc =
    let d = (a + 2 ^ w - (b + c)) % 2 ^ w in
    let e : d + b + c ≡ d + (b + c) = omega arith in
    let f : a + 2 ^ w - (b + c) + (b + c) ≡ a + 2 ^ w = omega arith in
    ap (λ (n : ℕ). n % 2 ^ w) e ∙ mod-add-mod (a + 2 ^ w - (b + c)) (2 ^ w) (b + c) ∙ ap (λ (n : ℕ). n % 2 ^ w) f ∙ add-mod_right a (2 ^ w) ∙ mod-eq_of_lt ha

-- ---- add by halves

-- a half's carry-in is bit 63 or bit 31
pub carry_ins : (cin : ℕ) → (bit_at (cin / 2 ^ 32) 31 ≡ bit_at cin 63) × (bit_at (cin % 2 ^ 32) 31 ≡ bit_at cin 31)
unfolding bit_at
carry_ins cin = (ap (λ (n : ℕ). n % 2) (div-div-eq-div-mul cin (2 ^ 32) (2 ^ 31)), bit-mod 32 cin 31 (lit< tt))

-- g's answer has f's of the high halves with bit 63 of cin in its high half, and f's of the low halves with bit 31 in its low half
abbrev pub ByHalves : (ℕ → ℕ → ℕ → ℕ) → (ℕ → ℕ → ℕ → ℕ) → Type 0
ByHalves g f = (a b cin : ℕ) → (g a b cin / 2 ^ 32 ≡ f (a / 2 ^ 32) (b / 2 ^ 32) (bit_at cin 63)) × (g a b cin % 2 ^ 32 ≡ f (a % 2 ^ 32) (b % 2 ^ 32) (bit_at cin 31))

by_halves : (f : ℕ → ℕ → ℕ → ℕ) → ((a b c : ℕ) → f a b c < 2 ^ 32) → ByHalves (λ a b cin. halves 32 (λ half. f (half a) (half b) (bit_at (half cin) 31))) f
by_halves f h a b cin =
    let l = h (a % 2 ^ 32) (b % 2 ^ 32) (bit_at (cin % 2 ^ 32) 31) in (
      halves_high 32 (λ half. f (half a) (half b) (bit_at (half cin) 31)) l ∙ ap (f (a / 2 ^ 32) (b / 2 ^ 32)) (carry_ins cin).0,
      halves_low 32 (λ half. f (half a) (half b) (bit_at (half cin) 31)) l ∙ ap (f (a % 2 ^ 32) (b % 2 ^ 32)) (carry_ins cin).1,
    )

-- each half is added on its own
pub sum-halves : ByHalves sum_halves (sum_word 32)
unfolding sum_halves sum_word
sum-halves = by_halves (sum_word 32) (λ a b c. mod-lt (a + b + c) (pow_pos 32))

-- and has the carries out of its own bits: `carry_rule` at the width 32
pub carry_halves_lem : ByHalves carry_halves (carry_word 32)
unfolding carry_halves carry_word
carry_halves_lem = by_halves (carry_word 32) (λ a b c. word_lt 32 (λ j. carry_lt a b c (j + 1)))

-- ---- multiply

-- high and low are words, and together the product
pub product_rule : (w a b : ℕ) → a < 2 ^ w → b < 2 ^ w → (high_word w a b < 2 ^ w) × (low_word w a b < 2 ^ w) × (high_word w a b * 2 ^ w + low_word w a b ≡ a * b)
unfolding high_word low_word
product_rule w a b ha hb =
    let below : a * b < 2 ^ w * 2 ^ w = lt_of_le_of_lt (mul-le-mul_left a (le_of_lt hb)) (mul-lt-mul_of_pos_right ha (pow_pos w)) in
    (shr_lt w w (rw (pow-add 2 w w) below), mod-lt (a * b) (pow_pos w), split (a * b) w)

-- ---- bit by bit

zero_bit : (i : ℕ) → bit_at 0 i ≡ 0
unfolding bit_at
zero_bit i = ap (λ (n : ℕ). n % 2) (zero-div (2 ^ i))

pub band_bit : (a b i : ℕ) → bit_at (bit_and a b) i ≡ bit_at a i * bit_at b i
band_bit a b i = bit-and a b i ∙ digits (λ x y. bit_and x y ≡ x * y) refl refl refl refl (bit_at a i) (bit_at b i) (bit_at_lt a i) (bit_at_lt b i)

pub bor_bit : (a b i : ℕ) → bit_at (bit_or a b) i ≡ bit_at a i + bit_at b i - bit_at a i * bit_at b i
bor_bit a b i = bit-or a b i ∙ digits (λ x y. bit_or x y ≡ x + y - x * y) refl refl refl refl (bit_at a i) (bit_at b i) (bit_at_lt a i) (bit_at_lt b i)

pub bxor_bit : (a b i : ℕ) → bit_at (bit_xor a b) i ≡ (bit_at a i + bit_at b i) % 2
bxor_bit a b i = bit-xor a b i ∙ digits (λ x y. bit_xor x y ≡ (x + y) % 2) refl refl refl refl (bit_at a i) (bit_at b i) (bit_at_lt a i) (bit_at_lt b i)

pub fax_bit : (a b c i : ℕ) → bit_at (fax_word a b c) i ≡ (bit_at a i * bit_at b i + bit_at c i) % 2
fax_bit a b c i = bxor_bit (bit_and a b) c i ∙ ap (λ (n : ℕ). (n + bit_at c i) % 2) (band_bit a b i)

-- how many of the words have bit i set
abbrev pub ones_at : ℕ → List ℕ → ℕ
ones_at i [] = 0
ones_at i (x ∷ xs) = bit_at x i + ones_at i xs

-- a bit of the exclusive-or of many is 1 exactly when it is set in an odd number of them
pub bxor_multi_bit : (xs : List ℕ) (i : ℕ) → bit_at (xor_all xs) i ≡ ones_at i xs % 2
bxor_multi_bit [] i = zero_bit i
bxor_multi_bit (x ∷ xs) i = bxor_bit x (xor_all xs) i ∙ ap (λ (n : ℕ). (bit_at x i + n) % 2) (bxor_multi_bit xs i) ∙ add-mod-mod (bit_at x i) (ones_at i xs) 2

-- with no sources it is zero
pub bxor_multi_none : xor_all [] ≡ 0
bxor_multi_none = refl

-- Select takes t exactly when bit 63 of the condition is 1
pub select_rule : (c t f : ℕ) → (bit_at c 63 ≡ 1 → select_word c t f ≡ t) × ((bit_at c 63 ≡ 1 → ⊥) → select_word c t f ≡ f)
select_rule c t f = (λ e. rw (eq-eqb (bit_at c 63) 1 e), λ n. rw (ne_eqb (bit_at c 63) 1 n))

-- ---- the hints

-- by a divisor that is not zero: quotient * b + remainder is a, and the remainder is below b
pub division_rule : (a b : ℕ) → (b ≡ 0 → ⊥) → (quotient_of a b * b + remainder_of a b ≡ a) × (remainder_of a b < b)
unfolding quotient_of remainder_of
division_rule a zero n = absurd (n refl)
division_rule a (suc b) n = (div-add-mod' a (suc b), mod-lt a (omega arith))

-- and no other two numbers are so
pub division_only : (a b q r : ℕ) → q * b + r ≡ a → r < b → (q ≡ quotient_of a b) × (r ≡ remainder_of a b)
unfolding quotient_of remainder_of
division_only a zero q r e h = absurd (omega arith)
division_only a (suc b) q r e h = (sym (digits_div q h) ∙ ap (λ (n : ℕ). n / suc b) e, sym (digits_mod q h) ∙ ap (λ (n : ℕ). n % suc b) e)

-- by zero: quotient all ones and remainder a
pub division_by_zero : (a : ℕ) → (quotient_of a 0 ≡ 2 ^ 64 - 1) × (remainder_of a 0 ≡ a)
unfolding quotient_of remainder_of
division_by_zero a = (refl, refl)

-- of the w bits of x the highest are zeros, as many as are counted, and the next below them is a 1
pub record LeadingZeros (w x n : ℕ) : Type 0 where
  pub within : n ≤ w
  pub zeros : (i : ℕ) → w - n ≤ i → i < w → bit_at x i ≡ 0
  pub next : n < w → bit_at x (w - 1 - n) ≡ 1

pub zeros_rule : (w x : ℕ) → LeadingZeros w x (zeros_above w x)
unfolding zeros_above
zeros_rule zero x = record { within = omega arith; zeros = λ i h l. absurd (omega arith); next = λ l. absurd (omega arith) }
zeros_rule (suc w) x = by (zeros_rule w x) (bit_at x w) refl (bit_at_lt x w)
  where
    by : {n : ℕ} → LeadingZeros w x n → (d : ℕ) → bit_at x w ≡ d → d < 2 → LeadingZeros (suc w) x (cond (eqb d 0) (suc n) 0)
    by {n} r zero e l =
        let same : suc w - 1 - suc n ≡ w - 1 - n = omega arith in
        record {
          within = omega (arith, r.within);
          zeros = λ i h k. ⊎_elim (λ f. ap (bit_at x) f ∙ e) (λ f. r.zeros i (omega arith) f) (eq-or-lt_of_le {n = i} {m = w} (omega arith));
          next = λ k. ap (bit_at x) same ∙ r.next (omega arith);
        }
    by {n} r (suc zero) e l =
        let top : suc w - 1 - 0 ≡ w = omega arith in
        record { within = omega arith; zeros = λ i h k. absurd (omega arith); next = λ k. ap (bit_at x) top ∙ e }
    by r (suc (suc d)) e l = absurd (omega arith)

-- 64 for zero, at the width 64
pub zeros_of_zero : (w : ℕ) → zeros_above w 0 ≡ w
unfolding zeros_above
zeros_of_zero zero = refl
zeros_of_zero (suc w) = rw (zero_bit w) (ap suc (zeros_of_zero w))

-- output j of the inputs in reverse order is input k - 1 - j of k
pub reversed : (xs : List ℕ) (j : ℕ) → j < length xs → get_or (reverse xs) j 0 ≡ get_or xs (length xs - 1 - j) 0
reversed [] j h = refl
reversed (x ∷ xs) j h = ap (λ (l : List ℕ). get_or l j 0) (reverse-cons x xs) ∙ ⊎_elim last (before (reversed xs j)) (eq-or-lt_of_le {n = j} {m = length xs} (omega arith))
  where
    last : j ≡ length xs → get_or (reverse xs ++ (x ∷ [])) j 0 ≡ get_or (x ∷ xs) (suc (length xs) - 1 - j) 0
    last e =
        let k : zero ≡ suc (length xs) - 1 - j = omega arith in
        ap (λ (n : ℕ). get_or (reverse xs ++ (x ∷ [])) n 0) (e ∙ sym (length-reverse xs)) ∙ get_or-append_seam (reverse xs) x [] 0 ∙ ap (λ (n : ℕ). get_or (x ∷ xs) n 0) k

    before : (j < length xs → get_or (reverse xs) j 0 ≡ get_or xs (length xs - 1 - j) 0) → j < length xs → get_or (reverse xs ++ (x ∷ [])) j 0 ≡ get_or (x ∷ xs) (suc (length xs) - 1 - j) 0
    before rest l =
        let k : suc (length xs) - 1 - j ≡ suc (length xs - 1 - j) = omega arith in
        get_or-append (reverse xs) (x ∷ []) 0 j (rw (length-reverse xs) l) ∙ rest l ∙ ap (λ (n : ℕ). get_or (x ∷ xs) n 0) (sym k)

-- ---- the assertions

-- a test of equality fails exactly where the numbers differ
differ_rule : (a b : ℕ) → (not (eqb a b) ≡ true) ↔ (a ≡ b → ⊥)
differ_rule a b = (λ h. eqb-false a b (not-true (eqb a b) h), λ n. rw (ne_eqb a b n))

same_rule : (a b : ℕ) → (eqb a b ≡ true) ↔ (a ≡ b)
same_rule a b = (eqb-true a b, eq-eqb a b)

-- AssertEq fails when a differs from b
pub eq_rule : (a b : ℕ) → (eq_fails a b ≡ true) ↔ (a ≡ b → ⊥)
eq_rule = differ_rule

-- AssertEqCond when also bit 63 of the condition is 1
pub eq_cond_rule : (c a b : ℕ) → (eq_cond_fails c a b ≡ true) ↔ ((bit_at c 63 ≡ 1) × (a ≡ b → ⊥))
eq_cond_rule c a b = (
  λ h. let p = (and-eq-true_iff (eqb (bit_at c 63) 1) (eq_fails a b)).0 h in (eqb-true (bit_at c 63) 1 p.0, (differ_rule a b).0 p.1),
  λ p. rw (eq-eqb (bit_at c 63) 1 p.0) ((differ_rule a b).1 p.1),
)

-- AssertZero on nonzero
pub zero-rule : (v : ℕ) → (zero_fails v ≡ true) ↔ (v ≡ 0 → ⊥)
zero-rule v = differ_rule v 0

-- AssertNonZero on zero
pub non_zero_rule : (v : ℕ) → (non_zero_fails v ≡ true) ↔ (v ≡ 0)
non_zero_rule v = same_rule v 0

-- AssertFalse on bit 63 set
pub false_rule : (v : ℕ) → (false_fails v ≡ true) ↔ (bit_at v 63 ≡ 1)
false_rule v = same_rule (bit_at v 63) 1

-- AssertTrue on bit 63 clear
pub true_rule : (v : ℕ) → (true_fails v ≡ true) ↔ (bit_at v 63 ≡ 0)
true_rule v = same_rule (bit_at v 63) 0
