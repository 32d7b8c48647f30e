-- `answers::tally::same_bytes` meets its contract: what is left of both decides. Assumes nothing.
use Rattle.std.proofs.Common.{arith, eq-eqb, ne_eqb}
use Rattle.answers.proofs.Same.{done, short-one, short_other, differ, agree}
use Rattle.answers.proofs.tally.same_bytes.Goals as goal

pub returns-then-one-at : goal.returns-then-one-at
returns-then-one-at c = short-one c.loop-at.invariant (omega arith) c.if-one-at.true

pub returns-then-other-at : goal.returns-then-other-at
returns-then-other-at c = short_other c.loop-at.invariant (omega arith) (omega arith) c.if-other-at.true

pub returns-then-one-at-2 : goal.returns-then-one-at-2
returns-then-one-at-2 c = differ c.loop-at.invariant (omega arith) (omega arith) (omega arith) (ne_eqb _ _ c.if-one-at-2.true)

pub loop-at-preserved : goal.loop-at-preserved
loop-at-preserved c = agree c.loop-at.invariant (omega arith) (omega arith) (omega arith) (eq-eqb _ _ c.if-one-at-2.false)

pub returns : goal.returns
returns c = done c.loop-at.invariant c.loop-at-test.false
