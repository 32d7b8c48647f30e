-- What `Deaths::chain` keeps as it goes, with w wires to go.
use Rattle.scratch.proofs.deaths.Chains.{Chained}
use Rattle.scratch.proofs.deaths.Deaths.chain.Given as goal

abbrev pub invariant-loop-w : goal.invariant-loop-w
invariant-loop-w l = Chained l.marks l.last l.self.chains l.self.link l.w
