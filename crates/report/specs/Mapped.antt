-- A report with its position told in other terms, total and kept as they are.
use Rattle.std.specs.Prelude.{◌≡◌}
use Rattle.report.specs.declared.Report.{Report}
use Rattle.report.specs.declared.Report.TheVariants.{Clean, Failing}

abbrev pub mapped : {P Q : Type 0} → (P → Q) → Report P → Report Q
mapped to Clean = Clean
mapped to (Failing p total kept) = Failing (to p) total kept

-- all that comes of a position by `post` is what g gives
pub record Gives {P Q : Type 0} (post : P → Q → Type 0) (g : P → Q) : Type 0 where
  pub value : (p : P) (q : Q) → post p q → q ≡ g p
