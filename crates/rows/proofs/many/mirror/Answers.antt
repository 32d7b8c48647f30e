-- `rows::many::mirror` meets its contract: a turn of the loop is one output more, copied from its input. Assumes nothing.
use Rattle.std.proofs.Common.{rules, ◌-◌, arith}
use Rattle.bytecode.specs.Layout.{words}
use Rattle.bytecode.proofs.Words.{length-words}
use Rattle.rows.proofs.Stripes.{across_as, across_then}
use Rattle.rows.proofs.Columns.{register_at_lem, mirror_turn}
use Rattle.rows.proofs.many.mirror.Goals as goal

pub loop-j-preserved : goal.loop-j-preserved
loop-j-preserved c =
    let a = c.args in
    let l = c.loop-j in
    let k = a.k in
    let ds = words a.outputs.now 0 k in
    let ss = words a.inputs.now 0 k in
    let to = register_at_lem a.outputs.now k l.j (omega arith) c.word-d.ensures in
    let from = register_at_lem a.inputs.now k (k - 1 - l.j) (omega arith) c.word-a.ensures in
    across_as (mirror_turn ss ds k l.j _ _ (length-words a.inputs.now 0 k) (length-words a.outputs.now 0 k) c.requires.apart (omega arith) to from)
    (across_then l.invariant (c.one_row.ensures (λ x y z. x) (search rules)))
