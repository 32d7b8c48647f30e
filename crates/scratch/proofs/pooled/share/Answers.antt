-- `pooled::share` meets its contract. Assumes nothing.
use Rattle.std.proofs.Common.{max, ap, ◌∙◌, arith}
use Rattle.scratch.proofs.pooled.Runs.{Full, larger, run_start, few_slots, filled, living, sample, stock_room, dead_slotted, run_next, run_end}
use Rattle.scratch.proofs.pooled.share.Goals as goal
use Rattle.scratch.proofs.pooled.share.Goals.{After-allot}

-- the gate's wires have their slots
full : (c : After-allot) → Full c.args.gates.now c.allot.new.slots c.allot.new.stock c.loop-g.g
full c = filled c.loop-g.invariant c.loop-g-test.true c.gate.ensures.wires c.allot.auto.slots c.allot.ensures.pool

pub loop-g-init : goal.loop-g-init
loop-g-init c = run_start _ _ _ c.requires.cleared c.new-stock.ensures.free c.new-stock.ensures.size

pub allot-requires-clause-room : goal.allot-requires-clause-room
allot-requires-clause-room c = omega (arith, few_slots c.loop-g.invariant (omega arith), c.gate.ensures.few)

pub living-requires : goal.living-requires
living-requires c = omega (arith, living (full (goal.at.living-requires c).After-allot))

pub release-requires-clause-known : goal.release-requires-clause-known
release-requires-clause-known c = dead_slotted (full (goal.at.release-requires-clause-known c).After-allot) c.args.deaths.now c.requires.ordered

pub release-requires-clause-room : goal.release-requires-clause-room
release-requires-clause-room c = stock_room (full (goal.at.release-requires-clause-room c).After-allot) c.args.deaths.now c.requires.ordered

pub loop-g-preserved : goal.loop-g-preserved
loop-g-preserved c =
    let f = full (goal.at.loop-g-preserved c).After-allot in
    run_next f c.args.deaths.now c.requires.ordered c.release.ensures
    (sample f c.loop-g.invariant.sampled (c.max-peak.ensures ∙ larger _ _ ∙ ap (max c.loop-g.peak) c.living.ensures))

pub returns-clause-peak : goal.returns-clause-peak
returns-clause-peak c = run_end c.loop-g.invariant (omega arith) (omega arith)
