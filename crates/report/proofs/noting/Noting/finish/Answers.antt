-- `report::noting::Noting::finish` meets its contract: what is shown at the end is the answer. Assumes nothing.
use Rattle.report.proofs.Noted.{answer_failing}
use Rattle.report.proofs.noting.Noting.finish.Goals as goal

pub returns : goal.returns
returns c =
    let n = c.args.self.now in
    let buffer = c.args.report.now in
    let k = c.min-kept in
    λ l h.
    let ans = answer_failing n l buffer c.in-Some.low k.result k.ensures c.in-Some.is h in
    (rw c.in_stripe.ensures ans.0, rw c.copy_from_slice.ensures.after ans.1)
