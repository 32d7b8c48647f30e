-- Carries: the bit-by-bit step and the masked formula are the carry word, at every width. Assumes nothing.
use Rattle.std.proofs.Common.{◌≡◌, ℕ, zero, suc, ◌+◌, ◌-◌, ◌*◌, ◌/◌, ◌%◌, ◌^◌, ◌<◌, Bool, true, false, leb, sym, refl, ap, ◌∙◌, ap₂, mod-lt, mul_assoc, add-mul, add_comm, one-mul, pow-suc, zero-mul, add-one, arith, lit<, pow_pos, pow-add, shl_exact, leb-false, leb-true}
use native.Mathlib.Nat.{mod-add-mod, div-eq_of_lt, div-eq_of_lt-le, add-mul-div_right, div-div-eq-div-mul}
use lib.Bits.{bit_and, bit_or, bit_xor, and_lt, or_lt, xor_lt, and_self, or_self, and_zero_l, and_zero_r, or_zero_l, or_zero_r, and_high, or_shifted_r, and_block, or_block, xor_block}
use lib.Pow.{ones_sub-lt, split, shr_lt}
use Rattle.common.specs.Halves.{halves}
use Rattle.common.specs.Bits.{bit, bit_at, word}
use Rattle.word.specs.Arithmetic.{sum_word, carry_into, carry_word, sum_halves, carry_halves}
use Rattle.common.proofs.Digits.{mod-suc-pow, bit_at_lt, top_bit, is_word, word_lt, bit-and, bit-or, bit-xor, bit_not, not-halves, bit-mod, three}

-- by what a test says
pub by_test : (t : Bool) (Q : ℕ → Type 0) → (t ≡ true → Q 1) → (t ≡ false → Q 0) → Q (bit t)
by_test true Q y n = y refl
by_test false Q y n = n refl

-- a number below 2 * p has the quotient 1 by p where it reaches p, and 0 elsewhere
test_div : (p n : ℕ) → n < p + p → bit (leb p n) ≡ n / p
test_div p n l =
    by_test (leb p n) (λ q. q ≡ n / p)
    (λ e. sym (div-eq_of_lt-le {k = 1} p (omega (arith, leb-true p n e)) (omega arith)))
    (λ e. sym (div-eq_of_lt (leb-false p n e)))

-- the carry into bit i is the quotient of the sum of the lower parts
carry_div : (a b c i : ℕ) → c < 2 → carry_into a b c i ≡ (a % 2 ^ i + b % 2 ^ i + c) / 2 ^ i
unfolding carry_into
carry_div a b c i l = test_div (2 ^ i) (a % 2 ^ i + b % 2 ^ i + c) (omega (arith, mod-lt a (pow_pos i), mod-lt b (pow_pos i)))

-- a column: what the lower parts carry is added to the digits above them
column : (p x y m n c : ℕ) → zero < p → (x * p + m + (y * p + n) + c) / p ≡ x + y + (m + n + c) / p
column p x y m n c h =
    let e : x * p + m + (y * p + n) + c ≡ m + n + c + (x + y) * p = omega (arith, add-mul x y p) in
    ap (λ (n : ℕ). n / p) e ∙ add-mul-div_right (m + n + c) (x + y) h ∙ add_comm _ _

-- the carry into the next bit is that of this bit's column
pub carry_step : (a b c i : ℕ) → c < 2 → carry_into a b c (suc i) ≡ (bit_at a i + bit_at b i + carry_into a b c i) / 2
carry_step a b c i l =
    carry_div a b c (suc i) l
    ∙ (λ j. (mod-suc-pow a i j + mod-suc-pow b i j + c) / pow-suc 2 i j)
    ∙ sym (div-div-eq-div-mul (bit_at a i * 2 ^ i + a % 2 ^ i + (bit_at b i * 2 ^ i + b % 2 ^ i) + c) (2 ^ i) 2)
    ∙ ap (λ (n : ℕ). n / 2) (column (2 ^ i) (bit_at a i) (bit_at b i) (a % 2 ^ i) (b % 2 ^ i) c (pow_pos i))
    ∙ ap (λ (n : ℕ). (bit_at a i + bit_at b i + n) / 2) (sym (carry_div a b c i l))

-- and the sum's bit is the column's
sum-bit : (a b c i : ℕ) → c < 2 → bit_at (a + b + c) i ≡ (bit_at a i + bit_at b i + carry_into a b c i) % 2
unfolding bit_at
sum-bit a b c i l =
    (λ j. (sym (split a i) j + sym (split b i) j + c) / 2 ^ i % 2)
    ∙ ap (λ (n : ℕ). n % 2) (column (2 ^ i) (a / 2 ^ i) (b / 2 ^ i) (a % 2 ^ i) (b % 2 ^ i) c (pow_pos i))
    ∙ ap (λ (n : ℕ). (a / 2 ^ i + b / 2 ^ i + n) % 2) (sym (carry_div a b c i l))
    ∙ omega arith

pub carry_lt : (a b c i : ℕ) → carry_into a b c i < 2
unfolding carry_into
carry_lt a b c i = by_test (leb (2 ^ i) (a % 2 ^ i + b % 2 ^ i + c)) (λ n. n < 2) (λ e. lit< tt) (λ e. lit< tt)

-- ---- bit by bit, lowest first, each bit at its place

-- into bit 0 goes c alone
pub carry_first : (a b c : ℕ) → c < 2 → carry_into a b c 0 ≡ c
carry_first a b c l = carry_div a b c 0 l ∙ omega arith

-- bit i of x, at its place
bit_there : (x i : ℕ) → bit_and x (2 ^ i) ≡ bit_at x i * 2 ^ i
unfolding bit_at
bit_there x i =
    let one : 2 ^ i ≡ 2 ^ (1 + i) - 2 ^ i = omega (arith, pow-add 2 1 i) in
    ap (bit_and x) one ∙ and_high x 1 i

-- where at least two of three bits are 1
abbrev pub two_of_three : (x y k : ℕ) → ℕ
two_of_three x y k = bit_or (bit_or (bit_and x y) (bit_and x k)) (bit_and y k)

-- what and and or make of a digit at a place, 0 or 1 times it
ruleset at_place = (zero-mul, one-mul, and_self, or_self, and_zero_l, and_zero_r, or_zero_l, or_zero_r)

-- at the place p it is half of the three digits' sum
two_of_three_lem : (p x y k : ℕ) → x < 2 → y < 2 → k < 2 → two_of_three (x * p) (y * p) (k * p) ≡ (x + y + k) / 2 * p
two_of_three_lem p =
    three (λ x y k. two_of_three (x * p) (y * p) (k * p) ≡ (x + y + k) / 2 * p)
    (simp at_place) (simp at_place) (simp at_place) (simp at_place) (simp at_place) (simp at_place) (simp at_place) (simp at_place)

-- the place of a bit, moved up to the next
pub place_up : (i : ℕ) → 2 ^ i * 2 ≡ 2 ^ (i + 1)
place_up i = sym (pow-add 2 i 1)

pub carry_up : (k i : ℕ) → k * 2 ^ i * 2 ≡ k * 2 ^ (i + 1)
carry_up k i = mul_assoc k (2 ^ i) 2 ∙ ap (λ (n : ℕ). k * n) (place_up i)

-- below w it is not lost
pub place_fits : (w i : ℕ) → i < w → 2 ^ i % 2 ^ w ≡ 2 ^ i
place_fits w i h = ap (λ (n : ℕ). n % 2 ^ w) (sym (one-mul (2 ^ i))) ∙ shl_exact 1 i w (lit< tt) (omega arith) ∙ one-mul (2 ^ i)

-- the carry out of bit i, from the carry below it
pub carry_next : (w a b c i place below : ℕ) → c < 2 → i < w → place ≡ 2 ^ i % 2 ^ w → below ≡ carry_into a b c i * 2 ^ i % 2 ^ w
    → two_of_three (bit_and a place) (bit_and b place) below ≡ carry_into a b c (i + 1) * 2 ^ i
carry_next w a b c i place below l h e f =
    let there : place ≡ 2 ^ i = e ∙ place_fits w i h in
    let fits : below ≡ carry_into a b c i * 2 ^ i = f ∙ shl_exact 1 i w (carry_lt a b c i) (omega arith) in
    (λ j. two_of_three (bit_and a (there j)) (bit_and b (there j)) (fits j))
    ∙ (λ j. two_of_three (bit_there a i j) (bit_there b i j) (carry_into a b c i * 2 ^ i))
    ∙ two_of_three_lem (2 ^ i) (bit_at a i) (bit_at b i) (carry_into a b c i) (bit_at_lt a i) (bit_at_lt b i) (carry_lt a b c i)
    ∙ ap (λ (n : ℕ). n * 2 ^ i) (sym (carry_step a b c i l) ∙ ap (carry_into a b c) (sym (add-one i)))

-- the carry word of one bit more
pub word_next : (a b c i : ℕ) → bit_or (carry_word i a b c) (carry_into a b c (i + 1) * 2 ^ i) ≡ carry_word (i + 1) a b c
unfolding carry_word word
word_next a b c i =
    or_shifted_r (carry_into a b c (i + 1)) i (carry_word i a b c) (word_lt i (λ j. carry_lt a b c (j + 1)))
    ∙ add_comm _ _ ∙ ap (λ (n : ℕ). carry_word n a b c) (sym (add-one i))

-- ---- the masked formula

-- one bit of the masked formula: of three digits x, y and k, their majority
abbrev Masked : ℕ → ℕ → ℕ → Type 0
Masked x y k = bit_or (bit_and x y) (bit_and (bit_xor x y) (1 - (x + y + k) % 2)) ≡ (x + y + k) / 2

majority : (x y k : ℕ) → x < 2 → y < 2 → k < 2 → Masked x y k
majority = three Masked refl refl refl refl refl refl refl refl

-- the masked formula, of two numbers of w digits and their sum
abbrev pub masked : (w a b s : ℕ) → ℕ
masked w a b s = bit_or (bit_and a b) (bit_and (bit_xor a b) (2 ^ w - 1 - s))

-- it is the carry word, at every width
pub masked_carries : (w a b c : ℕ) → a < 2 ^ w → b < 2 ^ w → c < 2 → masked w a b (sum_word w a b c) ≡ carry_word w a b c
unfolding carry_word sum_word
masked_carries w a b c ha hb hc =
    is_word w (or_lt w _ _ (and_lt w a b ha hb) (and_lt w _ _ (xor_lt w a b ha hb) (ones_sub-lt w _)))
    (λ i h. bit-or _ _ i
    ∙ ap₂ bit_or (bit-and a b i)
    (bit-and _ _ i ∙ ap₂ bit_and (bit-xor a b i) (bit_not w _ i (mod-lt _ (pow_pos w)) h ∙ ap (λ (n : ℕ). 1 - n) (bit-mod w (a + b + c) i h ∙ sum-bit a b c i hc)))
    ∙ majority (bit_at a i) (bit_at b i) (carry_into a b c i) (bit_at_lt a i) (bit_at_lt b i) (carry_lt a b c i)
    ∙ sym (carry_step a b c i hc) ∙ ap (carry_into a b c) (sym (add-one i)))

-- of two halves it is the two halves' formulas
pub masked_halves : (w a₁ a₀ b₁ b₀ s₁ s₀ : ℕ) → a₀ < 2 ^ w → b₀ < 2 ^ w → s₁ < 2 ^ w → s₀ < 2 ^ w
    → masked (w + w) (a₁ * 2 ^ w + a₀) (b₁ * 2 ^ w + b₀) (s₁ * 2 ^ w + s₀) ≡ masked w a₁ b₁ s₁ * 2 ^ w + masked w a₀ b₀ s₀
masked_halves w a₁ a₀ b₁ b₀ s₁ s₀ ha hb hs₁ hs₀ =
    ap₂ bit_or (and_block w a₁ b₁ a₀ b₀ ha hb)
    (ap₂ bit_and (xor_block w a₁ b₁ a₀ b₀ ha hb) (not-halves w s₁ s₀ hs₁ hs₀)
    ∙ and_block w (bit_xor a₁ b₁) (2 ^ w - 1 - s₁) (bit_xor a₀ b₀) (2 ^ w - 1 - s₀) (xor_lt w a₀ b₀ ha hb) (ones_sub-lt w s₀))
    ∙ or_block w (bit_and a₁ b₁) (bit_and (bit_xor a₁ b₁) (2 ^ w - 1 - s₁)) (bit_and a₀ b₀) (bit_and (bit_xor a₀ b₀) (2 ^ w - 1 - s₀))
    (and_lt w a₀ b₀ ha hb) (and_lt w _ _ (xor_lt w a₀ b₀ ha hb) (ones_sub-lt w s₀))

-- of the two halves' sums it is the two halves' carries
pub carries_by_halves : (a b cin : ℕ) → a < 2 ^ 64 → b < 2 ^ 64 → masked 64 a b (sum_halves a b cin) ≡ carry_halves a b cin
unfolding sum_halves carry_halves sum_word halves
carries_by_halves a b cin ha hb =
    let low : (x : ℕ) → x % 2 ^ 32 < 2 ^ 32 = λ x. mod-lt x (pow_pos 32) in
    let c₁ = bit_at (cin / 2 ^ 32) 31 in
    let c₀ = bit_at (cin % 2 ^ 32) 31 in
    let s₁ = sum_word 32 (a / 2 ^ 32) (b / 2 ^ 32) c₁ in
    let s₀ = sum_word 32 (a % 2 ^ 32) (b % 2 ^ 32) c₀ in
    (λ i. masked 64 (sym (split a 32) i) (sym (split b 32) i) (s₁ * 2 ^ 32 + s₀))
    ∙ masked_halves 32 (a / 2 ^ 32) (a % 2 ^ 32) (b / 2 ^ 32) (b % 2 ^ 32) s₁ s₀ (low a) (low b) (low _) (low _)
    ∙ ap₂ (λ (x y : ℕ). x * 2 ^ 32 + y)
    (masked_carries 32 (a / 2 ^ 32) (b / 2 ^ 32) c₁ (shr_lt 32 32 ha) (shr_lt 32 32 hb) (bit_at_lt _ 31))
    (masked_carries 32 (a % 2 ^ 32) (b % 2 ^ 32) c₀ (low a) (low b) (bit_at_lt _ 31))

-- ---- the sum as a program works it out: two wrapping steps, the carry-in being the top bit of its word

pub sum_by_steps : (k a b cin m : ℕ) → cin < 2 ^ (1 + k) → m ≡ (a + b) % 2 ^ (1 + k) → (m + cin / 2 ^ k) % 2 ^ (1 + k) ≡ sum_word (1 + k) a b (bit_at cin k)
unfolding sum_word
sum_by_steps k a b cin m h e =
    ap₂ (λ (m n : ℕ). (m + n) % 2 ^ (1 + k)) e (sym (top_bit k cin h)) ∙ mod-add-mod (a + b) (2 ^ (1 + k)) (bit_at cin k)
