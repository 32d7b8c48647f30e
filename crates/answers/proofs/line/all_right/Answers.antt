-- `answers::line::all_right` meets its contract: the chain looks at each byte by its place. Assumes nothing.
use Rattle.std.proofs.Common.{◌+◌, ◌%◌, ◌∙◌, sym, rules, tests}
use Rattle.std.proofs.lemmas.Iterator.{YieldsList-from_slice}
use Rattle.std.proofs.lemmas.Iterator.Consumers.{YieldsList-from_enumerate}
use Rattle.std.proofs.lemmas.Iterator.Search.{all_from_yields_List}
use Rattle.answers.specs.Line.{is_right}
use Rattle.answers.proofs.Right.{all_by_place}
use Rattle.answers.proofs.line.all_right.Goals as goal

pub returns : goal.returns
returns c = all_from_yields_List (λ p. is_right (p.0 % (c.args.digits + 1)) p.1) _ _ _ c.all.ensures.ran (YieldsList-from_enumerate (YieldsList-from_slice c.args.text.now cc) cc) (λ x b q k. search (rules, tests)) ∙ sym (all_by_place (c.args.digits + 1) 0 c.args.text.now)
