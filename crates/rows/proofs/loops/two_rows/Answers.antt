-- `rows::loops::two_rows` meets its contract: a turn of the loop is one column more, of two stores. Assumes nothing.
use Rattle.std.proofs.Common.{rules, [], ◌∷◌, get_or, ap₂}
use Rattle.rows.proofs.Stripes.{turn}
use Rattle.rows.proofs.loops.two_rows.Goals as goal

pub loop-i-preserved : goal.loop-i-preserved
loop-i-preserved g c f h makes =
    let a = c.args in
    let p = c.requires in
    let made = makes.values _ _ _ _ (search rules) (search rules) (search rules) c.makes-one.ensures in
    turn (λ ws. f (get_or ws 0 0) (get_or ws 1 0) (get_or ws 2 0) ∷ h (get_or ws 0 0) (get_or ws 1 0) (get_or ws 2 0) ∷ [])
    (a.d ∷ a.e ∷ []) (a.a ∷ a.b ∷ a.c ∷ []) (c.makes-one.result.0 ∷ c.makes-one.result.1 ∷ [])
    c.loop-i-test.true (p.in_row.0, (p.in_row.1, tt)) (p.in_row_2.0, (p.in_row_2.1, (p.in_row_2.2, tt)))
    (ap₂ (λ v w. v ∷ w ∷ []) made.0 made.1) (c.loop-i.invariant f h makes)
