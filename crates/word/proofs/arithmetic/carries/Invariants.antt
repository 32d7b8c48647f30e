-- `word::arithmetic::carries`' loop, after i bits: `word` has the carry out of each of the i lowest bits, and `place` is bit i, at which `below` has the carry into it. Past
-- bit 63 both are lost. Assumes nothing.
use Rattle.std.proofs.Common.{◌≡◌, ◌*◌, ◌%◌, ◌^◌}
use Rattle.common.specs.Bits.{bit_at}
use Rattle.word.specs.Arithmetic.{carry_into, carry_word}
use Rattle.word.proofs.arithmetic.carries.Given as goal

abbrev pub invariant-loop : goal.invariant-loop
invariant-loop l =
    let c = bit_at l.cin 63 in
    let i = l.counter in
    record { word : l.word ≡ carry_word i l.a l.b c; place : l.place ≡ 2 ^ i % 2 ^ 64; below : l.below ≡ carry_into l.a l.b c i * 2 ^ i % 2 ^ 64 }
