-- `rows::loops::one_row`'s loop: `i` columns of the stripe are done, whatever function the calls turn out to be. Assumes nothing.
use Rattle.std.proofs.Common.{ℕ}
use Rattle.rows.specs.Column.{store}
use Rattle.rows.specs.Working.{Makes}
use Rattle.rows.proofs.Stripes.{Upto}
use Rattle.rows.proofs.loops.one_row.Given as goal

abbrev pub invariant-loop-i : goal.invariant-loop-i
invariant-loop-i g l =
    (f : ℕ → ℕ → ℕ → ℕ) → Makes (goal.F-post g l.make) f → Upto (λ col. store col l.d (f (col l.a) (col l.b) (col l.c))) l.fn.s l.i l.initial.values l.values
