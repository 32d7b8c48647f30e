-- `fill::assertions::word_at` meets its contract: the place is that of the column. Assumes nothing.
use Rattle.fill.proofs.Scans.{at_column}
use Rattle.fill.proofs.assertions.word_at.Goals as goal

pub returns : goal.returns
returns c = at_column c.args.s c.args.values.now c.args.k c.args.r c.requires.1
