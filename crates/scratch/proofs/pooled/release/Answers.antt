-- `pooled::release` meets its contract. Assumes nothing.
use Rattle.std.proofs.Common.{arith}
use Rattle.scratch.proofs.pooled.Steps.{release_start, release_more}
use Rattle.scratch.proofs.pooled.release.Goals as goal

pub loop-init : goal.loop-init
loop-init c = release_start c.args.deaths.now.link c.args.slots.now c.args.stock.now _ _ _ (omega arith) c.requires.room c.requires.known

pub loop-preserved : goal.loop-preserved
loop-preserved c = release_more c.loop.invariant (omega arith) (omega arith) c.give.ensures.free c.give.ensures.size
