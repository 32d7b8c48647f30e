-- `rows::loops::one_row` meets its contract: a turn of the loop is one column more. Assumes nothing.
use Rattle.std.proofs.Common.{rules, [], ◌∷◌, get_or, ap}
use Rattle.rows.proofs.Stripes.{turn}
use Rattle.rows.proofs.loops.one_row.Goals as goal

pub loop-i-preserved : goal.loop-i-preserved
loop-i-preserved g c f makes =
    let a = c.args in
    let p = c.requires in
    turn (λ ws. f (get_or ws 0 0) (get_or ws 1 0) (get_or ws 2 0) ∷ []) (a.d ∷ []) (a.a ∷ a.b ∷ a.c ∷ []) (c.make.result ∷ [])
    c.loop-i-test.true (p.in_row.0, tt) (p.in_row.1, (p.in_row_2.0, (p.in_row_2.1, tt)))
    (ap (λ w. w ∷ []) (makes.value _ _ _ _ (search rules) (search rules) (search rules) c.make.ensures)) (c.loop-i.invariant f makes)
