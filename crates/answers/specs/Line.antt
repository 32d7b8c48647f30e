-- The form of a line, and what it says. Assumes nothing.
use Rattle.std.specs.Prelude.{ℕ, suc, ◌+◌, ◌-◌, ◌*◌, ◌%◌, Bool, true, cond, ◌&&◌, ◌||◌, List, [], ◌∷◌, Option, None, Some, length, take, drop, ◌==◌, nat_le, nat_lt, slice_index}
use Rattle.answers.specs.Hex.{spelled}
use Rattle.answers.specs.declared.line.Line.{Line}

-- `0` to `9`, `a` to `f`
abbrev pub is_digit : ℕ → Bool
is_digit byte = (nat_le 48 byte && nat_lt byte 58) || (nat_le 97 byte && nat_lt byte 103)

-- a byte is a space where a field is to begin, two bytes into each stretch, and a digit elsewhere
abbrev pub is_right : (place byte : ℕ) → Bool
is_right place byte = cond (place == 2) (byte == 32) (is_digit byte)

-- each byte is right, the first being that at place i
unfoldable pub all_right : (apart i : ℕ) → List ℕ → Bool
all_right apart i [] = true
all_right apart i (byte ∷ bytes) = is_right (i % apart) byte && all_right apart (suc i) bytes

-- a line feed at the end, and right bytes before it
abbrev pub is_line : ℕ → List ℕ → Bool
is_line apart text = slice_index text (length text - 1) == 10 && all_right apart 0 (take (length text - 1) text)

-- the code, and field k of so many digits
abbrev pub code_of : List ℕ → ℕ
code_of text = spelled 0 (take 2 (drop 0 text)) % 256

-- what a text says whose fields begin so far apart, the first at 3, each by what is read from its place; nothing where it has another form
abbrev pub line_of : {A : Type 0} → (apart : ℕ) → (ℕ → A) → List ℕ → Option (Line A)
line_of apart field text =
    cond (is_line apart text)
    (Some (record {
      code = code_of text;
      a = field 3;
      b = field (3 + apart);
      c = field (3 + 2 * apart);
      d = field (3 + 3 * apart);
      e = field (3 + 4 * apart);
    }))
    None

-- fields of sixteen digits begin at 3, 20, 37, 54, 71
abbrev pub words_of : List ℕ → Option (Line ℕ)
words_of text = line_of 17 (λ at. spelled 0 (take 16 (drop at text))) text

-- fields of eight digits begin at 3, 12, 21, 30, 39
abbrev pub numbers_of : List ℕ → Option (Line ℕ)
numbers_of text = line_of 9 (λ at. spelled 0 (take 8 (drop at text)) % 4294967296) text
