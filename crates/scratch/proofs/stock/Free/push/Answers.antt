-- `Free::push` meets its contract. Assumes nothing.
use Rattle.std.proofs.Common.{length, ap, ◌∙◌, arith}
use Rattle.std.proofs.Math.ListN.{length-set}
use Rattle.scratch.proofs.Stacks.{length_stack}
use Rattle.scratch.proofs.stock.Free.push.Goals as goal

pub invariant_of-self : goal.invariant_of-self
invariant_of-self c =
    (omega (arith, length_stack c.self.inside.slots.now c.self.inside.height, ap length c.self.view_is), length-set c.self.inside.slots.now c.self.inside.height c.args.slot ∙ c.self.invariant.1)
