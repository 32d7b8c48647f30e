-- A number by its binary digits: `bit_at` and `word` undo each other, and the digits of the bit operations. Assumes nothing.
use mathlib.Core.Path.{◌≡◌, refl, sym, ap, ap₂, ◌∙◌, subst}
use Prim.Native.Nat.{ℕ, zero, suc, ◌+◌, ◌-◌, ◌*◌, ◌/◌, ◌%◌, ◌^◌, ◌≤◌, ◌<◌}
use mathlib.Core.Logic.{⊎_elim}
use native.Mathlib.Nat.{eq-or-lt_of_le, mul_assoc, add-mul-mod_self_right, mod-one, mod-lt, mod-eq_of_lt, le_of_suc-le-suc, add_comm, mul-sub, mul_comm, mul-le-mul_right, pow-suc}
use native.Mathlib.Numerals.{one-add}
use native.Mathlib.Omega.{arith}
use lib.Dec.{lit<}
use lib.Arith.{le-zero, bin_ind, digits_lt}
use lib.Bits.{bit_and, bit_or, bit_xor, differ, xor_step, and_shr, or_shr, xor_shr, and_mod, or_mod, xor_mod}
use lib.Pow.{pow_pos, pow-add, mod-pow-add, mod-mod-pow, field, split, high, low, shr_mod, ones_split, shr_lt, le_ones}
use Rattle.common.specs.Bits.{bit_at, word}

-- one more digit
pub mod-suc-pow : (x i : ℕ) → x % 2 ^ suc i ≡ bit_at x i * 2 ^ i + x % 2 ^ i
unfolding bit_at
mod-suc-pow x i = ap (λ (n : ℕ). x % 2 ^ n) (sym (one-add i)) ∙ mod-pow-add x 1 i

pub bit_at_lt : (x i : ℕ) → bit_at x i < 2
unfolding bit_at
bit_at_lt x i = mod-lt (x / 2 ^ i) (lit< tt)

-- the highest bit needs no mask
pub top_bit : (k x : ℕ) → x < 2 ^ (1 + k) → bit_at x k ≡ x / 2 ^ k
unfolding bit_at
top_bit k x l = shr_mod 1 k l

-- the word of a number's own digits is the number
pub word_bits : (w x : ℕ) → word w (bit_at x) ≡ x % 2 ^ w
unfolding word
word_bits zero x = sym (mod-one x)
word_bits (suc w) x = ap (λ (n : ℕ). n + bit_at x w * 2 ^ w) (word_bits w x) ∙ add_comm _ _ ∙ sym (mod-suc-pow x w)

pub word_ext : (w : ℕ) {f g : ℕ → ℕ} → ((i : ℕ) → i < w → f i ≡ g i) → word w f ≡ word w g
unfolding word
word_ext zero h = refl
word_ext (suc w) h = ap₂ (λ (x y : ℕ). x + y * 2 ^ w) (word_ext w (λ i l. h i (omega arith))) (h w (omega arith))

pub word_lt : (w : ℕ) {f : ℕ → ℕ} → ((i : ℕ) → f i < 2) → word w f < 2 ^ w
unfolding word
word_lt zero h = lit< tt
word_lt (suc w) {f} h = omega (arith, pow-suc 2 w, word_lt w h, mul-le-mul_right (2 ^ w) (le_of_suc-le-suc (h w)))

-- the low digits of a word are the word of its low digits
word_low : (w i : ℕ) {f : ℕ → ℕ} → ((i : ℕ) → f i < 2) → i ≤ w → word w f % 2 ^ i ≡ word i f
unfolding word
word_low zero i {f} h l = rw (le-zero l)
word_low (suc w) i {f} h l = ⊎_elim (λ e. rw e (mod-eq_of_lt (word_lt (suc w) h))) (λ k. more (w - i) (omega arith) ∙ word_low w i h (omega arith)) (eq-or-lt_of_le l)
  where
    more : (j : ℕ) → j + i ≡ w → (word w f + f w * 2 ^ w) % 2 ^ i ≡ word w f % 2 ^ i
    more j e =
        ap (λ (n : ℕ). (word w f + n) % 2 ^ i) (ap (λ (n : ℕ). f w * 2 ^ n) (sym e) ∙ ap (λ (n : ℕ). f w * n) (pow-add 2 j i) ∙ sym (mul_assoc (f w) (2 ^ j) (2 ^ i)))
        ∙ add-mul-mod_self_right (word w f) (f w * 2 ^ j) (2 ^ i)

-- what `word` says: bit i of the word is f i, for each of its w bits
pub word_bit : (w i : ℕ) (f : ℕ → ℕ) → ((i : ℕ) → f i < 2) → i < w → bit_at (word w f) i ≡ f i
unfolding word bit_at
word_bit w i f h l =
    sym (field (word w f) 1 i) ∙ ap (λ (n : ℕ). word w f % 2 ^ n / 2 ^ i) (one-add i)
    ∙ ap (λ (n : ℕ). n / 2 ^ i) (word_low w (suc i) h l ∙ add_comm (word i f) (f i * 2 ^ i)) ∙ high (f i) i (word_lt i h)

-- a number below 2 ^ w is the word of any digits that agree with its own
pub is_word : (w : ℕ) {x : ℕ} {f : ℕ → ℕ} → x < 2 ^ w → ((i : ℕ) → i < w → bit_at x i ≡ f i) → x ≡ word w f
is_word w {x} l h = sym (mod-eq_of_lt l) ∙ sym (word_bits w x) ∙ word_ext w h

-- below w the digits of x are those of x's w low digits
pub bit-mod : (w x i : ℕ) → i < w → bit_at (x % 2 ^ w) i ≡ bit_at x i
unfolding bit_at
bit-mod w x i h =
    let e : w - suc i + 1 + i ≡ w = omega arith in
    subst (λ (n : ℕ). x % 2 ^ n / 2 ^ i % 2 ≡ x / 2 ^ i % 2) e
    (ap (λ (n : ℕ). n % 2) (field x (w - suc i + 1) i) ∙ mod-mod-pow (x / 2 ^ i) (w - suc i) 1)

-- what holds of 0 and of 1 holds of a digit
pub digit : (Q : ℕ → Type 0) → Q 0 → Q 1 → (x : ℕ) → x < 2 → Q x
digit Q q r zero h = q
digit Q q r (suc zero) h = r
digit Q q r (suc (suc x)) h = absurd (omega arith)

-- of each of two
pub digits : (Q : ℕ → ℕ → Type 0) → Q 0 0 → Q 0 1 → Q 1 0 → Q 1 1 → (x y : ℕ) → x < 2 → y < 2 → Q x y
digits Q a b c d x y hx hy = digit (λ x. Q x y) (digit (Q 0) a b y hy) (digit (Q 1) c d y hy) x hx

-- of each of three
pub three : (Q : ℕ → ℕ → ℕ → Type 0) → Q 0 0 0 → Q 0 0 1 → Q 0 1 0 → Q 0 1 1 → Q 1 0 0 → Q 1 0 1 → Q 1 1 0 → Q 1 1 1
    → (x y z : ℕ) → x < 2 → y < 2 → z < 2 → Q x y z
three Q a b c d e f g h x y z hx hy hz = digit (λ x. Q x y z) (digits (Q 0) a b c d y z hy hz) (digits (Q 1) e f g h y z hy hz) x hx

-- ---- the digits of the bit operations

pub bit-and : (a b i : ℕ) → bit_at (bit_and a b) i ≡ bit_and (bit_at a i) (bit_at b i)
unfolding bit_at
bit-and a b i = ap (λ (n : ℕ). n % 2) (and_shr a b i) ∙ and_mod (a / 2 ^ i) (b / 2 ^ i) 1

pub bit-or : (a b i : ℕ) → bit_at (bit_or a b) i ≡ bit_or (bit_at a i) (bit_at b i)
unfolding bit_at
bit-or a b i = ap (λ (n : ℕ). n % 2) (or_shr a b i) ∙ or_mod (a / 2 ^ i) (b / 2 ^ i) 1

pub bit-xor : (a b i : ℕ) → bit_at (bit_xor a b) i ≡ bit_xor (bit_at a i) (bit_at b i)
unfolding bit_at
bit-xor a b i = ap (λ (n : ℕ). n % 2) (xor_shr a b i) ∙ xor_mod (a / 2 ^ i) (b / 2 ^ i) 1

sub-mul : (m n k : ℕ) → (m - n) * k ≡ m * k - n * k
sub-mul m n k = mul_comm (m - n) k ∙ mul-sub k m n ∙ ap₂ (λ (x y : ℕ). x - y) (mul_comm k m) (mul_comm k n)

-- `!x` at a width of j + i digits, as its j high and its i low digits
not_parts : (j i x : ℕ) → x < 2 ^ (j + i) → 2 ^ (j + i) - 1 - x ≡ (2 ^ j - 1 - x / 2 ^ i) * 2 ^ i + (2 ^ i - 1 - x % 2 ^ i)
not_parts j i x l =
    let below : x / 2 ^ i ≤ 2 ^ j - 1 = le_ones j (shr_lt j i l) in
    omega (arith, ones_split j i, split x i, sub-mul (2 ^ j - 1) (x / 2 ^ i) (2 ^ i), mul-le-mul_right (2 ^ i) below, mod-lt x (pow_pos i))

-- `!x` of a number of two halves
pub not-halves : (w x y : ℕ) → x < 2 ^ w → y < 2 ^ w → 2 ^ (w + w) - 1 - (x * 2 ^ w + y) ≡ (2 ^ w - 1 - x) * 2 ^ w + (2 ^ w - 1 - y)
not-halves w x y hx hy =
    not_parts w w (x * 2 ^ w + y) (rw (pow-add 2 w w) (digits_lt hx hy)) ∙ (λ i. (2 ^ w - 1 - high x w hy i) * 2 ^ w + (2 ^ w - 1 - low x w hy i))

not-shr : (j i x : ℕ) → x < 2 ^ (j + i) → (2 ^ (j + i) - 1 - x) / 2 ^ i ≡ 2 ^ j - 1 - x / 2 ^ i
not-shr j i x l = ap (λ (n : ℕ). n / 2 ^ i) (not_parts j i x l) ∙ high (2 ^ j - 1 - x / 2 ^ i) i (omega (arith, pow_pos i))

pub not_low : (w i x : ℕ) → x < 2 ^ w → i ≤ w → (2 ^ w - 1 - x) % 2 ^ i ≡ 2 ^ i - 1 - x % 2 ^ i
not_low w i x l h =
    let e : w - i + i ≡ w = omega arith in
    let g : x < 2 ^ (w - i + i) = rw e l in
    ap (λ (n : ℕ). (2 ^ n - 1 - x) % 2 ^ i) (sym e) ∙ ap (λ (n : ℕ). n % 2 ^ i) (not_parts (w - i) i x g)
    ∙ low (2 ^ (w - i) - 1 - x / 2 ^ i) i (omega (arith, pow_pos i))

not_digit : (j i x : ℕ) → x < 2 ^ (suc j + i) → (2 ^ (suc j + i) - 1 - x) / 2 ^ i % 2 ≡ 1 - x / 2 ^ i % 2
not_digit j i x l = rw (not-shr (suc j) i x l) (omega (arith, pow-suc 2 j, shr_lt {n = x} (suc j) i l))

pub bit_not : (w x i : ℕ) → x < 2 ^ w → i < w → bit_at (2 ^ w - 1 - x) i ≡ 1 - bit_at x i
unfolding bit_at
bit_not w x i l h =
    let e : suc (w - suc i) + i ≡ w = omega arith in
    subst (λ (n : ℕ). x < 2 ^ n → (2 ^ n - 1 - x) / 2 ^ i % 2 ≡ 1 - x / 2 ^ i % 2) e (not_digit (w - suc i) i x) l

-- exclusive-or in any bracketing
pub xor_assoc : (a b c : ℕ) → bit_xor (bit_xor a b) c ≡ bit_xor a (bit_xor b c)
xor_assoc a =
    bin_ind (λ (n : ℕ). (b c : ℕ) → bit_xor (bit_xor n b) c ≡ bit_xor n (bit_xor b c)) (λ b c. refl)
    (λ n ih b c. xor_step (bit_xor n b) c
    ∙ (λ i. bit_xor (xor_shr n b 1 i) (c / 2) * 2 + differ (xor_mod n b 1 i) (c % 2))
    ∙ ap₂ (λ (x y : ℕ). x * 2 + y) (ih (b / 2) (c / 2)) (one (n % 2) (b % 2) (c % 2) (mod-lt n (lit< tt)) (mod-lt b (lit< tt)) (mod-lt c (lit< tt)))
    ∙ (λ i. bit_xor (n / 2) (sym (xor_shr b c 1) i) * 2 + differ (n % 2) (sym (xor_mod b c 1) i))
    ∙ sym (xor_step n (bit_xor b c)))
    a
  where
    one : (x y z : ℕ) → x < 2 → y < 2 → z < 2 → differ (bit_xor x y) z ≡ differ x (bit_xor y z)
    one = three (λ x y z. differ (bit_xor x y) z ≡ differ x (bit_xor y z)) refl refl refl refl refl refl refl refl
