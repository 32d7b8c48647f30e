-- Document 01's shift variants: their codes, what refusal 7 judges, and the shift of a word by each.
use Rattle.std.specs.Prelude.{ℕ, List, [], ◌∷◌, Bool, cond, get_or, ltb, Result, Ok, Err}
use Rattle.std.specs.Int.{w32, w64}
use Rattle.common.specs.Halves.{halves}
use Rattle.shift.specs.Shift.{sll, slr, sar, rotr}
use Rattle.shift.specs.declared.ShiftVariant.{ShiftVariant}
use Rattle.shift.specs.declared.ShiftVariant.TheVariants.{Sll, Slr, Sar, Rotr, Sll32, Srl32, Sra32, Rotr32}
use Rattle.shift.specs.declared.UnknownVariant.{UnknownVariant}

-- the first four on the word, the last four on each half of it
abbrev pub shift_word : ShiftVariant → ℕ → ℕ → ℕ
shift_word Sll n x = sll w64 n x
shift_word Slr n x = slr w64 n x
shift_word Sar n x = sar w64 n x
shift_word Rotr n x = rotr w64 n x
shift_word Sll32 n x = halves 32 (λ half. sll w32 n (half x))
shift_word Srl32 n x = halves 32 (λ half. slr w32 n (half x))
shift_word Sra32 n x = halves 32 (λ half. sar w32 n (half x))
shift_word Rotr32 n x = halves 32 (λ half. rotr w32 n (half x))

-- how many bits are shifted together: the amount is below this
abbrev pub width_of : ShiftVariant → ℕ
width_of Sll = 64
width_of Slr = 64
width_of Sar = 64
width_of Rotr = 64
width_of Sll32 = 32
width_of Srl32 = 32
width_of Sra32 = 32
width_of Rotr32 = 32

-- the byte that names a variant
abbrev pub code_of : ShiftVariant → ℕ
code_of Sll = 0
code_of Slr = 1
code_of Sar = 2
code_of Rotr = 3
code_of Sll32 = 4
code_of Srl32 = 5
code_of Sra32 = 6
code_of Rotr32 = 7

-- the variants in the order of their codes
abbrev pub variants : List ShiftVariant
variants = Sll ∷ Slr ∷ Sar ∷ Rotr ∷ Sll32 ∷ Srl32 ∷ Sra32 ∷ Rotr32 ∷ []

-- the variant of a code that is not over 7
abbrev pub variant_of : ℕ → ShiftVariant
variant_of c = get_or variants c Rotr32

-- refusal 7: the variant is over 7
abbrev pub bad_variant : ℕ → Bool
bad_variant c = ltb 7 c

-- or the amount is over 63 (variants 0 to 3) or over 31 (4 to 7)
abbrev pub most_amount : ℕ → ℕ
most_amount c = cond (ltb c 4) 63 31

abbrev pub bad_amount : ℕ → ℕ → Bool
bad_amount c n = ltb (most_amount c) n

-- what a byte names
abbrev pub read_variant : ℕ → Result ShiftVariant UnknownVariant
read_variant c = cond (bad_variant c) (Err (record { 0 = c })) (Ok (variant_of c))
