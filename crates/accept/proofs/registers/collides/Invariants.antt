-- `accept::registers::collides`'s loops: the destinations that are left decide, and within a turn the sources that are left. Assumes nothing.
use Rattle.std.proofs.Common.{◌≡◌, length, drop, false}
use Rattle.common.specs.Lists.{member}
use Rattle.accept.specs.Check.{overlap}
use Rattle.accept.specs.Working.{numbers}
use Rattle.accept.proofs.registers.collides.Given as goal

abbrev pub invariant-dests : goal.invariant-dests
invariant-dests l = (l.hit ≡ false) × (overlap (numbers l.dests) (numbers l.sources) ≡ overlap (numbers l.left) (numbers l.sources))

abbrev pub decreases-dests : goal.decreases-dests
decreases-dests l = length l.left

abbrev pub invariant-loop-source : goal.invariant-loop-source
invariant-loop-source l = (l.hit ≡ false) × (member l.dest (numbers l.sources) ≡ member l.dest (numbers (drop l.source-index l.sources)))
