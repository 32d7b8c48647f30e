-- `GateList::start` meets its contract. Assumes nothing.
use Rattle.std.proofs.Common.{arith}
use Rattle.scratch.proofs.Cut.{start_after}
use Rattle.scratch.proofs.GateLists.{gate_within}
use Rattle.scratch.proofs.judge.GateList.start.Goals as goal

pub returns-then-g-eq0-clause-within : goal.returns-then-g-eq0-clause-within
returns-then-g-eq0-clause-within c = (gate_within c.args.self.now c.args.g c.requires).1

pub returns-else-g-eq0-clause-before : goal.returns-else-g-eq0-clause-before
returns-else-g-eq0-clause-before c = omega (arith, start_after c.args.self.now.ends.now c.args.g (omega arith), gate_within c.args.self.now c.args.g c.requires)

pub returns-else-g-eq0-clause-within : goal.returns-else-g-eq0-clause-within
returns-else-g-eq0-clause-within c = (gate_within c.args.self.now c.args.g c.requires).1
