-- `Deaths::chain` meets its contract. Assumes nothing.
use Rattle.std.proofs.Common.{sym, ◌-◌, get_or, refl, arith}
use Rattle.scratch.proofs.deaths.Chains.{chained_none, chained_small, chained_more}
use Rattle.scratch.proofs.deaths.Deaths.chain.Goals as goal

pub loop-w-init : goal.loop-w-init
loop-w-init c = chained_none c.args.marks.now c.args.last.now _ _ c.requires.none

pub overflow_add-self : goal.overflow_add-self
overflow_add-self c =
    let b = c.requires.stamps (c.loop-w.w - 1) (omega arith) in
    omega (arith, chained_small _ _ _ _ _ c.loop-w.invariant (get_or c.args.last.now (c.loop-w.w - 1) 0) (omega arith) c.loop-w.auto.w)

pub loop-w-preserved-then-is_scratch : goal.loop-w-preserved-then-is_scratch
loop-w-preserved-then-is_scratch c =
    let b = c.requires.stamps (c.loop-w.w - 1) (omega arith) in
    chained_more _ _ _ _ _ c.loop-w.invariant (c.loop-w.w - 1) (omega arith) c.loop-w.auto.w (sym c.if-is_scratch.ensures) _ refl (omega arith)
    (omega (arith, c.loop-w.self.links)) (omega (arith, c.loop-w.self.heads))
