-- Document 01's table of refusals in its words, as far as the decoder gives them. The law that the decoder gives the lowest of
-- them, exactly then, is `decoder_exactly` of proofs/; which instruction it gives elsewhere is `parse_first`. Assumes nothing.
use Rattle.std.specs.Prelude.{ℕ, ◌+◌, ◌*◌, ◌<◌, ◌≡◌, ◌⊎◌, List, map, false, length, get_or}
use Rattle.common.specs.Lists.{member}
use Rattle.bytecode.specs.Opcode.{Line, table, shape_of}
use Rattle.bytecode.specs.Layout.{word_at}
use Rattle.bytecode.specs.declared.opcode.Shape.{Shape}
use Rattle.bytecode.specs.declared.opcode.Shape.TheVariants as S

-- the source's opcodes
abbrev pub opcodes : List ℕ
opcodes = map (λ (l : Line). l.byte) table

-- the instruction, at the length its own counts give, passes the end, or a count cannot be read
abbrev pub TooShort : Shape → List ℕ → Type 0
TooShort S.Unknown s = ⊥
TooShort S.NotCarried s = ⊥
TooShort (S.Fixed d n p) s = length s < 1 + 4 * (d + n + p)
TooShort S.Shift s = length s < 11
TooShort S.Many s = (length s < 9) ⊎ (length s < 9 + 4 * word_at s 5)
TooShort S.Hint s =
    (length s < 9) ⊎ (length s < 17 + 4 * word_at s 5) ⊎ (length s < 17 + 4 * (word_at s 5 + word_at s (9 + 4 * word_at s 5) + word_at s (13 + 4 * word_at s 5)))

-- what each number is given for, of the instruction at the start of the bytes
pub data DecoderFault (s : List ℕ) : ℕ → Type 0 where
  unknown_opcode : 0 < length s → member (get_or s 0 0) opcodes ≡ false → DecoderFault s 4
  not_carried : 0 < length s → get_or s 0 0 ≡ 0x31 → DecoderFault s 5
  no_bytes : length s ≡ 0 → DecoderFault s 6
  truncated : TooShort (shape_of (get_or s 0 0)) s → DecoderFault s 6
  bad_variant_byte : get_or s 0 0 ≡ 0x10 → 7 < get_or s 9 0 → DecoderFault s 7
