-- `accept::registers::registers` meets its contract: the bytes, four at a time. Assumes nothing.
use Rattle.accept.proofs.Fours.{slice_words}
use Rattle.accept.proofs.registers.registers.Goals as goal

pub returns : goal.returns
returns c = rw c.as_chunks.ensures.front (slice_words c.args.code.now c.args.at c.args.count c.requires)
