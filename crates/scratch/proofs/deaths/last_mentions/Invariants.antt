-- What `deaths::last_mentions` keeps as it goes.
use Rattle.std.proofs.Common.{◌≡◌}
use Rattle.scratch.specs.Working.Arrays.{stamped_to}
use Rattle.scratch.specs.Working.{gates_in}
use Rattle.scratch.proofs.deaths.last_mentions.Given as goal

abbrev pub invariant-loop-g : goal.invariant-loop-g
invariant-loop-g l = l.last ≡ stamped_to (gates_in l.gates) l.g l.initial.last
