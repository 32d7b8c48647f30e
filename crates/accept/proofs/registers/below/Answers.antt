-- `accept::registers::below` meets its contract: each register is below rows. Assumes nothing.
use Rattle.std.proofs.Common.{◌∙◌, rules, tests}
use Rattle.std.proofs.lemmas.Iterator.{YieldsList-from_slice}
use Rattle.std.proofs.lemmas.Iterator.Search.{all_from_yields_List}
use Rattle.accept.proofs.Fours.{all_below_lem}
use Rattle.accept.proofs.registers.below.Goals as goal

pub returns : goal.returns
returns c =
    all_from_yields_List _ _ _ _ c.all.ensures.ran (YieldsList-from_slice c.args.registers.now cc) (λ x b q k. search (rules, tests))
    ∙ all_below_lem c.args.rows c.args.registers.now
