use Rattle.std.proofs.Common.{◌%◌, rules}
use Rattle.std.proofs.lemmas.Nat.{and_mask}
use Rattle.answers.proofs.line.numbers_of.Goals as goal

pub returns : goal.returns
returns c = c.line_of.ensures (λ number. number % 4294967296) (λ number value called. search (rules, and_mask number 32))
