-- `gussetglen::gussetglen_join` meets its contract: the report that stands fits the packing. Assumes nothing.
use Rattle.std.proofs.Common.{rules}
use Rattle.gussetglen.proofs.Ranges.{join_gives}
use Rattle.gussetglen.proofs.gussetglen_join.Goals as goal

pub pack_report-requires : goal.pack_report-requires
pack_report-requires c =
    join_gives c.args.left c.args.right c.batch_in.ensures c.batch_in-2.ensures c.join.ensures.value c.in-Ok.is (c.map.ensures (λ p. p.0) (search rules))
