-- Borrows: a - b - c is the complement of !a + b + c, so its borrows are that sum's carries, at every width. Assumes nothing.
use Rattle.std.proofs.Common.{◌≡◌, ℕ, ◌+◌, ◌-◌, ◌%◌, ◌^◌, ◌<◌, ◌≤◌, Bool, true, false, ltb, leb, ◌⊎◌, sym, refl, ap, ◌∙◌, inl, inr, ⊎_elim, mod-lt, mod-eq_of_lt, arith, pow_pos, ltb-false, ltb-true, le-leb, leb-false, leb-true}
use borrow.Author.Tests.{lt-leb}
use native.Mathlib.Nat.{mod-eq-sub-mod}
use lib.Bits.{bit_and, bit_or, bit_xor}
use lib.Pow.{ones_sub-lt}
use Rattle.common.specs.Bits.{bit}
use Rattle.word.specs.Arithmetic.{sum_word, carry_into, carry_word, difference_word, borrow_from, borrow_word}
use Rattle.common.proofs.Digits.{word_ext, not_low}
use Rattle.word.proofs.Adder.{by_test, masked, masked_carries}

le-or-lt : (m n : ℕ) → (m ≤ n) ⊎ (n < m)
le-or-lt m n = from (leb m n) refl
  where
    from : (t : Bool) → leb m n ≡ t → (m ≤ n) ⊎ (n < m)
    from true e = inl (leb-true m n e)
    from false e = inr (leb-false m n e)

-- a number below 2 * m, modulo m
wrap : (m n : ℕ) → n < m + m → ((n < m) × (n % m ≡ n)) ⊎ ((m ≤ n) × (n % m ≡ n - m))
wrap m n l = ⊎_elim (λ h. inr (h, mod-eq-sub-mod h ∙ mod-eq_of_lt (omega arith))) (λ h. inl (h, mod-eq_of_lt h)) (le-or-lt m n)

-- the difference is the complement of the sum with the complement
complement : (w a b c : ℕ) → a < 2 ^ w → b < 2 ^ w → c < 2 → 2 ^ w - 1 - sum_word w (2 ^ w - 1 - a) b c ≡ difference_word w a b c
unfolding sum_word difference_word
complement w a b c ha hb hc =
    let sum = wrap (2 ^ w) (2 ^ w - 1 - a + b + c) (omega arith) in
    let dif = wrap (2 ^ w) (a + 2 ^ w - (b + c)) (omega arith) in
    ⊎_elim (λ p. ⊎_elim (λ q. omega arith) (λ q. omega arith) dif) (λ p. ⊎_elim (λ q. omega arith) (λ q. omega arith) dif) sum

same_test : (p m n k : ℕ) → m < p → k ≡ p - 1 - m + n → bit (ltb m n) ≡ bit (leb p k)
same_test p m n k h e =
    by_test (ltb m n) (λ x. x ≡ bit (leb p k))
    (λ t. ap bit (sym (le-leb p k (omega (arith, ltb-true m n t)))))
    (λ t. ap bit (sym (lt-leb p k (omega (arith, ltb-false m n t)))))

-- a borrow is a carry of the sum with the complement
borrow_carry : (w a b c i : ℕ) → a < 2 ^ w → i ≤ w → borrow_from a b c i ≡ carry_into (2 ^ w - 1 - a) b c i
unfolding borrow_from carry_into
borrow_carry w a b c i ha h =
    let low : a % 2 ^ i < 2 ^ i = mod-lt a (pow_pos i) in
    same_test (2 ^ i) (a % 2 ^ i) (b % 2 ^ i + c) (2 ^ i - 1 - a % 2 ^ i + b % 2 ^ i + c) low (omega arith)
    ∙ ap (λ (n : ℕ). bit (leb (2 ^ i) (n + b % 2 ^ i + c))) (sym (not_low w i a ha h))

pub borrow_word_lem : (w a b c : ℕ) → a < 2 ^ w → borrow_word w a b c ≡ carry_word w (2 ^ w - 1 - a) b c
unfolding borrow_word carry_word
borrow_word_lem w a b c ha = word_ext w (λ i h. borrow_carry w a b c (i + 1) ha (omega arith))

difference-lt : (w a b c : ℕ) → difference_word w a b c < 2 ^ w
unfolding difference_word
difference-lt w a b c = mod-lt (a + 2 ^ w - (b + c)) (pow_pos w)

-- the masked formula is the borrow word, at every width
pub masked_borrows : (w a b c : ℕ) → a < 2 ^ w → b < 2 ^ w → c < 2 → bit_or (bit_and (2 ^ w - 1 - a) b) (bit_and (bit_xor (2 ^ w - 1 - a) b) (difference_word w a b c)) ≡ borrow_word w a b c
masked_borrows w a b c ha hb hc =
    ap (λ (d : ℕ). bit_or (bit_and (2 ^ w - 1 - a) b) (bit_and (bit_xor (2 ^ w - 1 - a) b) d)) (sym (complement w a b c ha hb hc))
    ∙ masked_carries w (2 ^ w - 1 - a) b c (ones_sub-lt w a) hb hc ∙ sym (borrow_word_lem w a b c ha)

-- as the program has it: the carries of the complement of a, the sum being the complement of the difference
pub complemented_borrows : (w a b c : ℕ) → a < 2 ^ w → b < 2 ^ w → c < 2 → masked w (2 ^ w - 1 - a) b (2 ^ w - 1 - difference_word w a b c) ≡ borrow_word w a b c
complemented_borrows w a b c ha hb hc =
    let d = difference_word w a b c in
    let below : d < 2 ^ w = difference-lt w a b c in
    let back : 2 ^ w - 1 - (2 ^ w - 1 - d) ≡ d = omega arith in
    ap (λ (s : ℕ). bit_or (bit_and (2 ^ w - 1 - a) b) (bit_and (bit_xor (2 ^ w - 1 - a) b) s)) back ∙ masked_borrows w a b c ha hb hc
