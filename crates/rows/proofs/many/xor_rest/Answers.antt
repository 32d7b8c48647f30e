-- `rows::many::xor_rest` meets its contract: a turn of the loop is one register more. Assumes nothing.
use Rattle.std.proofs.Common.{rules}
use Rattle.std.specs.Int.Bits.{bit_xor}
use Rattle.accept.specs.Working.{numbers}
use Rattle.rows.proofs.Stripes.{across_same, across_as, across_then}
use Rattle.rows.proofs.Columns.{number_turn, xor_start}
use Rattle.rows.proofs.many.xor_rest.Goals as goal

pub loop-source-init : goal.loop-source-init
loop-source-init c = across_same _ _ (xor_start c.args.d (numbers c.args.sources.now))

pub loop-source-preserved : goal.loop-source-preserved
loop-source-preserved c =
    let a = c.args in
    let l = c.loop-source in
    across_as (number_turn a.d a.sources.now l.source-index c.requires.registers.1 c.loop-source-test.true c.from_le_bytes-r.ensures)
    (across_then l.invariant (c.one_row.ensures (λ x y z. bit_xor x y) (search rules)))
