-- Digits that are written of a word are read back as that word: the lists' spelling and this reading are one. Assumes nothing.
use Rattle.std.proofs.Common.{◌≡◌, ℕ, zero, suc, ◌+◌, ◌-◌, ◌*◌, ◌/◌, ◌%◌, ◌^◌, ◌<◌, ◌≤◌, Bool, true, false, cond, ltb, nat_lt, ◌==◌, List, [], ◌∷◌, ◌++◌, replicate, length, eqb-true, ap, refl, ◌∙◌, if◌then◌else◌, pow-suc, arith, ltb-false, ltb-true, le-ltb, lt-ltb}
use Rattle.std.specs.Fmt.{digit_glyph, digits_onto, digits, char_count, padded_integral, format_spec}
use Rattle.std.proofs.lemmas.List.{append-nil}
use Rattle.answers.specs.Hex.{digit_of, spelled}

-- the ASCII code of a digit below 16: `0` to `9`, then `a` to `f`
abbrev pub hex_digit_ascii : ℕ → ℕ
hex_digit_ascii d = cond (nat_lt d 10) (48 + d) (87 + d)

-- the last k digits of n in base b, the most significant first
abbrev pub last_digits : ℕ → ℕ → ℕ → List ℕ
last_digits b zero n = []
last_digits b (suc k) n = last_digits b k (n / b) ++ (hex_digit_ascii (n % b) ∷ [])

-- a digit
digit_back : (d : ℕ) → d < 16 → digit_of (hex_digit_ascii d) ≡ d
digit_back d small = go (ltb d 10) refl
  where
    go : (t : Bool) → ltb d 10 ≡ t → digit_of (cond t (48 + d) (87 + d)) ≡ d
    go true e =
        let low : d < 10 = ltb-true d 10 e in
        simp (le-ltb (48 + d) 48 (omega arith), lt-ltb (48 + d) 58 (omega arith)) (omega arith)
    go false e =
        let high : 10 ≤ d = ltb-false d 10 e in
        simp
        (le-ltb (87 + d) 48 (omega arith), le-ltb (87 + d) 58 (omega arith), le-ltb (87 + d) 97 (omega arith), lt-ltb (87 + d) 103 (omega arith))
        (omega arith)

-- the last digit comes last
last_digit : (n : ℕ) (bytes : List ℕ) (byte : ℕ) → spelled n (bytes ++ (byte ∷ [])) ≡ (spelled n bytes * 16 + digit_of byte) % 2 ^ 64
unfolding spelled
last_digit n [] byte = refl
last_digit n (b ∷ bytes) byte = last_digit ((n * 16 + digit_of b) % 2 ^ 64) bytes byte

pub word_back : (k n : ℕ) → n < 16 ^ k → n < 2 ^ 64 → spelled 0 (last_digits 16 k n) ≡ n
unfolding spelled
word_back zero n none word = omega arith
word_back (suc k) n more word =
    let power : 16 ^ suc k ≡ 16 ^ k * 16 = pow-suc 16 k in
    let fewer : n / 16 < 16 ^ k = omega arith in
    let rest : spelled 0 (last_digits 16 k (n / 16)) ≡ n / 16 = word_back k (n / 16) fewer (omega arith) in
    rw (last_digit, rest, digit_back (n % 16) (omega arith)) (omega arith)

-- the last digit of a number before some others, and those before it where there are any
front_back : (n : ℕ) (bytes : List ℕ) → n < 2 ^ 64 → (front : List ℕ → List ℕ) → ((others : List ℕ) → spelled 0 (front others) ≡ spelled (n / 16) others) → spelled 0 (if n / 16 == 0 then digit_glyph false (n % 16) ∷ bytes else front (digit_glyph false (n % 16) ∷ bytes)) ≡ spelled n bytes
unfolding spelled
front_back n bytes word front back = go (n / 16 == 0) refl
  where
    last : digit_of (digit_glyph false (n % 16)) ≡ n % 16
    last = digit_back (n % 16) (omega arith)

    go : (t : Bool) → (n / 16 == 0) ≡ t → spelled 0 (if t then digit_glyph false (n % 16) ∷ bytes else front (digit_glyph false (n % 16) ∷ bytes)) ≡ spelled n bytes
    go true e =
        let none : n / 16 ≡ 0 = eqb-true (n / 16) 0 e in
        let all : (0 * 16 + digit_of (digit_glyph false (n % 16))) % 2 ^ 64 ≡ n = omega (arith, last) in
        ap (λ value. spelled value bytes) all
    go false e =
        let all : (n / 16 * 16 + digit_of (digit_glyph false (n % 16))) % 2 ^ 64 ≡ n = omega (arith, last) in
        back (digit_glyph false (n % 16) ∷ bytes) ∙ ap (λ value. spelled value bytes) all

-- the digits of a number before some others
digits_back : (k n : ℕ) (bytes : List ℕ) → n < 16 ^ k → n < 2 ^ 64 → spelled 0 (digits_onto k 16 false n bytes) ≡ spelled n bytes
unfolding spelled
digits_back zero n bytes none word =
    let nothing : n ≡ 0 = omega arith in
    rw nothing refl
digits_back (suc k) n bytes more word =
    let power : 16 ^ suc k ≡ 16 ^ k * 16 = pow-suc 16 k in
    front_back n bytes word (digits_onto k 16 false (n / 16)) (λ others. digits_back k (n / 16) others (omega arith) (omega arith))

-- zeros before them
zeros_back : (k : ℕ) (bytes : List ℕ) → spelled 0 (replicate k 48 ++ bytes) ≡ spelled 0 bytes
unfolding spelled
zeros_back zero bytes = refl
zeros_back (suc k) bytes = zeros_back k bytes

-- zeros up to a width
padded_back : (width : ℕ) (numeral : List ℕ) → spelled 0 (padded_integral (format_spec 32 0 4 width (2 ^ 64 - 1)) false [] numeral) ≡ spelled 0 numeral
unfolding padded_integral char_count
padded_back width numeral = zeros_back (width - length numeral - 0 - 0) (numeral ++ []) ∙ rw append-nil refl

-- what `{:02x}`, `{:08x}` and `{:016x}` write of a word is read back as that word
pub printed_back : (width n : ℕ) → n < 2 ^ 64 → spelled 0 (padded_integral (format_spec 32 0 4 width (2 ^ 64 - 1)) false [] (digits 16 false n)) ≡ n
unfolding digits spelled
printed_back width n word = padded_back width (digits 16 false n) ∙ digits_back 64 n [] (omega arith) word
