-- `rows::many::mirror`'s loop: the first `j` outputs are copied, in every column of the stripe. Assumes nothing.
use Rattle.std.proofs.Common.{map, reverse, take}
use Rattle.bytecode.specs.Layout.{words}
use Rattle.rows.specs.Column.{stores}
use Rattle.rows.specs.Working.{Across}
use Rattle.rows.proofs.many.mirror.Given as goal

abbrev pub invariant-loop-j : goal.invariant-loop-j
invariant-loop-j l =
    Across (λ col. stores (take l.j (words l.outputs 0 l.k)) (reverse (map col (words l.inputs 0 l.k))) col) l.fn.s l.initial.values l.values
