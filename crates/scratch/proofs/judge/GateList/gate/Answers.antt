-- `GateList::gate` meets its contract. Assumes nothing.
use Rattle.std.proofs.Common.{get_or, sym, ap, ◌∙◌}
use Rattle.std.proofs.Math.Seq.{slice}
use Rattle.scratch.proofs.Cut.{gate_at, cut_is, cut_known}
use Rattle.scratch.proofs.judge.GateList.gate.Goals as goal

pub returns-clause-wires : goal.returns-clause-wires
returns-clause-wires c =
    cut_is c.start.result (get_or c.args.self.now.ends.now c.args.g 0) c.args.self.now.mentions.now c.start.ensures.before
    ∙ ap (λ a. slice a (get_or c.args.self.now.ends.now c.args.g 0) c.args.self.now.mentions.now) c.start.ensures.begins
    ∙ sym (gate_at 0 c.args.self.now.ends.now c.args.self.now.mentions.now c.args.g c.requires)

pub returns-clause-known : goal.returns-clause-known
returns-clause-known c = cut_known _ c.args.self.now.mentions.now c.start.result _ c.args.self.now.known
