-- `gussetglen::gussetglen_raise` meets its contract: a raised report fits the packing. Assumes nothing.
use Rattle.std.proofs.Common.{rules}
use Rattle.gussetglen.proofs.Ranges.{raise_gives}
use Rattle.gussetglen.proofs.gussetglen_raise.Goals as goal

pub pack_report-requires : goal.pack_report-requires
pack_report-requires c =
    raise_gives c.args.start c.args.report c.stripe_in.ensures c.raise.ensures.value c.in-Ok.is (c.map.ensures (λ p. p.0) (search rules))
