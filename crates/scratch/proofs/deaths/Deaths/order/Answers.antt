-- `Deaths::order` meets its contract. Assumes nothing.
use Rattle.std.proofs.Common.{◌∙◌, arith}
use Rattle.scratch.proofs.deaths.Stamps.{last_low, last_dying}
use Rattle.scratch.proofs.deaths.Deaths.order.Goals as goal

pub chain-requires-clause-stamps : goal.chain-requires-clause-stamps
chain-requires-clause-stamps c = last_low _ _ c.args.gates.now.marks.now c.args.gates.now.few_gates _ c.last_mentions.ensures

pub returns : goal.returns
returns c g h =
    c.chain.ensures g (omega (arith, c.args.gates.now.few_gates))
    ∙ last_dying _ _ c.args.gates.now.marks.now c.args.gates.now.few_gates _ c.last_mentions.ensures g c.args.gates.now.few_wires h
