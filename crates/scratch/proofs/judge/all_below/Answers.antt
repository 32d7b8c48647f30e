-- `judge::all_below` meets its contract. Assumes nothing.
use Rattle.std.proofs.Common.{rules, ◌∙◌, ltb}
use Rattle.std.proofs.lemmas.Iterator.{YieldsList-from_slice}
use Rattle.std.proofs.lemmas.Iterator.Search.{all_from_yields_List}
use borrow.Author.Tests.{tests}
use Rattle.scratch.proofs.judge.Loops.{all_is}
use Rattle.scratch.proofs.judge.all_below.Goals as goal

pub returns : goal.returns
returns c =
    all_from_yields_List (λ w. ltb w c.args.wires) _ _ _ c.all.ensures.ran (YieldsList-from_slice c.args.mentions.now cc) (λ x b q k. search (rules, tests))
    ∙ all_is c.args.wires c.args.mentions.now
