-- `judge::ends_close` meets its contract. Assumes nothing.
use Rattle.std.proofs.Common.{ap, ◌∙◌, length, ◌-◌, eqb}
use Rattle.std.specs.Option.{unwrap_or}
use Rattle.std.proofs.lemmas.Option.{unwrap_or-slice_get}
use Rattle.std.proofs.lemmas.List.Sorted.{non_decreasing_from_is_sorted}
use Rattle.scratch.proofs.judge.Loops.{ends_rise, ends_fall}
use Rattle.scratch.proofs.judge.ends_close.Goals as goal

pub returns-then-is_sorted : goal.returns-then-is_sorted
returns-then-is_sorted c =
    let told = non_decreasing_from_is_sorted c.args.ends.now c.is_sorted.result c.is_sorted.ensures.cases in
    let rise = rw c.if-is_sorted.true at told in
    ap (λ n. eqb n c.args.count) (c.unwrap_or-last.ensures ∙ ap (λ o. unwrap_or o 0) (c.copied.ensures ∙ c.last.ensures.value) ∙ unwrap_or-slice_get c.args.ends.now (length c.args.ends.now - 1) 0)
    ∙ ends_rise c.args.count c.args.ends.now rise

pub returns-else-is_sorted : goal.returns-else-is_sorted
returns-else-is_sorted c =
    let told = non_decreasing_from_is_sorted c.args.ends.now c.is_sorted.result c.is_sorted.ensures.cases in
    let (k, l, f) = rw c.if-is_sorted.false at told in
    c.if-is_sorted.false ∙ ends_fall c.args.count c.args.ends.now k l (f 0)
