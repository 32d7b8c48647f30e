-- A spelled number as a chain reads it, a digit at a time. Assumes nothing.
use Rattle.std.proofs.Common.{◌≡◌, ℕ, ◌+◌, ◌*◌, ◌%◌, ◌^◌, List, [], ◌∷◌, refl, ap, ◌∙◌, arith}
use Rattle.std.specs.List.{fold}
use Rattle.answers.specs.Hex.{digit_of, spelled}

-- the number so far is shifted by a digit's four bits, and the digit is added, each within a word
abbrev pub read_digit : ℕ → ℕ → ℕ
read_digit value byte = (value * 16 % 2 ^ 64 + digit_of byte) % 2 ^ 64

pub spelled_by_digits : (n : ℕ) (text : List ℕ) → spelled n text ≡ fold read_digit n text
unfolding spelled
spelled_by_digits n [] = refl
spelled_by_digits n (byte ∷ bytes) =
    let same : (n * 16 + digit_of byte) % 2 ^ 64 ≡ read_digit n byte = omega arith in
    ap (λ value. spelled value bytes) same ∙ spelled_by_digits (read_digit n byte) bytes
