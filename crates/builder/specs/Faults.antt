-- Document 01's table of refusals in its words, as far as emitters give them. The law that they give the lowest of them, exactly then, is
-- `emitter_exactly` of proofs/. Assumes nothing.
use Rattle.std.specs.Prelude.{ℕ, ◌+◌, ◌<◌, ◌≡◌, List, true, length, get_or, drop}
use Rattle.common.specs.Lists.{member}
use Rattle.bytecode.specs.Encode.{encode}
use Rattle.builder.specs.Call.{Call, laid}
use Rattle.builder.specs.declared.BytecodeBuilder.{BytecodeBuilder}

-- what each number is given for, of a call in the state `b` on the buffer `s`
pub data EmitFault (c : Call) (b : BytecodeBuilder) (s : List ℕ) : ℕ → Type 0 where
  bad_variant_argument : (laid c).op ≡ 0x10 → 7 < get_or (laid c).numbers 0 0 → EmitFault c b s 7
  large_dimension : (laid c).op ≡ 0x80 → (x : ℕ) → member x (drop 1 (laid c).numbers) ≡ true → 4294967295 < x → EmitFault c b s 8
  passes_buffer : length s < b.len + length (encode (laid c)) → EmitFault c b s 11
  passes_limit : 65536 < b.len + length (encode (laid c)) → EmitFault c b s 11
  length_over : length s < b.len → EmitFault c b s 11
  count_over : b.len < b.count → EmitFault c b s 11
