-- `answers::line::hex` meets its contract: the chain reads a digit at a time. Assumes nothing.
use Rattle.std.proofs.Common.{◌≡◌, ◌∙◌, ◌-◌, sym, ap, length, take, drop, take_all, length-drop, arith, rules, tests}
use Rattle.std.proofs.lemmas.Iterator.{YieldsList-from_slice}
use Rattle.std.proofs.lemmas.Iterator.Consumers.{fold_from_yields_List}
use Rattle.std.proofs.lemmas.List.{take_min, drop_min}
use Rattle.answers.specs.Hex.{spelled}
use Rattle.answers.proofs.Spelling.{read_digit, spelled_by_digits}
use Rattle.answers.proofs.line.hex.Goals as goal

pub returns : goal.returns
returns c =
    let text = c.args.text.now in
    let from = c.min-from.result in
    let rest = take (length text - from) (drop from text) in
    let digits = take c.min-count.result rest in
    let whole : rest ≡ drop c.args.at text = take_all _ (drop from text) (omega (arith, length-drop from text)) ∙ rw c.min-from.ensures (drop_min c.args.at text) in
    let same : digits ≡ take c.args.digits (drop c.args.at text) = rw c.min-count.ensures (take_min c.args.digits rest) ∙ ap (take c.args.digits) whole in
    fold_from_yields_List {all = digits} _ read_digit 0 _ c.fold.ensures.ran (YieldsList-from_slice digits cc) (λ a x b q k. search (rules, tests)) ∙ sym (spelled_by_digits 0 digits) ∙ ap (spelled 0) same
