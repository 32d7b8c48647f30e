-- `rows::many::xor_rest`'s loop: the registers that it passed are folded in, in every column of the stripe. Assumes nothing.
use Rattle.std.proofs.Common.{map, take}
use Rattle.std.specs.Int.Bits.{bit_xor}
use Rattle.accept.specs.Working.{numbers}
use Rattle.word.specs.Bitwise.{xor_all}
use Rattle.rows.specs.Column.{store}
use Rattle.rows.specs.Working.{Across}
use Rattle.rows.proofs.many.xor_rest.Given as goal

abbrev pub invariant-loop-source : goal.invariant-loop-source
invariant-loop-source l =
    Across (λ col. store col l.d (bit_xor (col l.d) (xor_all (map col (take l.source-index (numbers l.sources)))))) l.fn.s l.initial.values l.values
