-- `GateList::judge` meets its contract: what is accepted has what the gate list says. Assumes nothing.
use Rattle.std.proofs.Common.{sym, ap, ◌∙◌, arith}
use Rattle.common.specs.Lists.{all_below}
use Rattle.scratch.proofs.Cut.{good}
use Rattle.scratch.proofs.judge.GateList.judge.Goals as goal

pub invariant_of-result : goal.invariant_of-result
invariant_of-result c =
    let o = good _ _ _ _ _ (sym c.if-not-accepts.ensures) in
    record {
      few_wires = omega (arith, o.few, o.marked);
      few_gates = o.gates;
      few_mentions = o.listed;
      closed = o.cut;
      known = ap (λ n. all_below n c.args.mentions.now) o.marked ∙ o.inside;
    }
