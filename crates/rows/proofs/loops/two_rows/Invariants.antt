-- `rows::loops::two_rows`'s loop: `i` columns of the stripe are done, whatever functions the calls turn out to be. Assumes nothing.
use Rattle.std.proofs.Common.{ℕ}
use Rattle.rows.specs.Column.{store}
use Rattle.rows.specs.Working.{MakesTwo}
use Rattle.rows.proofs.Stripes.{Upto}
use Rattle.rows.proofs.loops.two_rows.Given as goal

abbrev pub invariant-loop-i : goal.invariant-loop-i
invariant-loop-i g l =
    (f h : ℕ → ℕ → ℕ → ℕ) → MakesTwo (goal.F-post g l.makes) f h
    → Upto (λ col. store (store col l.d (f (col l.a) (col l.b) (col l.c))) l.e (h (col l.a) (col l.b) (col l.c))) l.fn.s l.i l.initial.values l.values
