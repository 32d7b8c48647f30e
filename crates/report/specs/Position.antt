-- Positions in a stripe and positions in a batch, two kinds of count.
use Rattle.std.specs.Prelude.{ℕ}
use Rattle.report.specs.declared.LocalPosition.{LocalPosition}
use Rattle.report.specs.declared.BatchPosition.{BatchPosition}

abbrev pub local : ℕ → LocalPosition
local column = record { 0 = column }

abbrev pub batch : ℕ → BatchPosition
batch column = record { 0 = column }
