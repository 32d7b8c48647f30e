-- `gussetglen::gussetglen_check` meets its contract: a refusal's offset is small. Assumes nothing.
use Rattle.std.proofs.Common.{sym, arith}
use Rattle.refusal.specs.Number.{number_of}
use Rattle.accept.proofs.Refusals.{offset_small}
use Rattle.gussetglen.proofs.gussetglen_check.Goals as goal

pub pack_refusal-requires : goal.pack_refusal-requires
pack_refusal-requires c =
    let r = c.in-Err.refused in
    omega (arith, offset_small c.args.code.now c.args.rows (number_of r.refusal) r.offset (λ i. omega (arith, c.type_inv.code i)) (sym c.in-Err.ensures))
