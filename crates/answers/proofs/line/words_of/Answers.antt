use Rattle.std.proofs.Common.{rules}
use Rattle.answers.proofs.line.words_of.Goals as goal

pub returns : goal.returns
returns c = c.line_of.ensures (λ number. number) (λ number value called. search rules)
