-- Document 01, "Assertions and reports": raising a stripe's report to a batch position, and joining.
use Rattle.std.specs.Prelude.{ℕ, ◌+◌, cond, List, [], ◌∷◌, ltb, eqb, Result, Ok, Err}
use Rattle.refusal.specs.declared.Refusal.{Refusal}
use Rattle.refusal.specs.declared.Refusal.TheVariants.{SamePosition, BadPosition}
use Rattle.report.specs.Sizes.{max_width}
use Rattle.report.specs.Position.{batch}
use Rattle.report.specs.declared.LocalPosition.{LocalPosition}
use Rattle.report.specs.declared.BatchPosition.{BatchPosition}
use Rattle.report.specs.declared.Report.{Report}
use Rattle.report.specs.declared.Report.TheVariants.{Clean, Failing}
use Rattle.report.specs.declared.Side.{Side}
use Rattle.report.specs.declared.Side.TheVariants.{Neither, Left, Right}
use Rattle.report.specs.declared.Joined.{Joined}

-- a clean report stays clean at every start; a failing one moves by the start, the sum taken exactly
abbrev pub raised : ℕ → Report LocalPosition → Result (Report BatchPosition) Refusal
raised start Clean = Ok Clean
raised start (Failing p total kept) =
    cond (ltb (start + p.0) max_width) (Ok (Failing (batch (start + p.0)) total kept)) (Err BadPosition)

-- a report that stands, and the side that it came from
abbrev pub from_side : Side → Report BatchPosition → Result Joined Refusal
from_side side report = Ok (record { report = report; side = side })

-- the lower failing head, and which side's records stand
abbrev pub joined : Report BatchPosition → Report BatchPosition → Result Joined Refusal
joined Clean Clean = from_side Neither Clean
joined Clean (Failing q u l) = from_side Right (Failing q u l)
joined (Failing p t k) Clean = from_side Left (Failing p t k)
joined (Failing p t k) (Failing q u l) =
    cond (eqb p.0 q.0) (Err SamePosition)
    (cond (ltb p.0 q.0) (from_side Left (Failing p t k)) (from_side Right (Failing q u l)))

-- ---- several: an answer is joined again

abbrev pub again : Report BatchPosition → Result Joined Refusal → Result Joined Refusal
again b (Ok j) = joined b j.report
again b (Err r) = Err r

-- a list's reports; none at all join to clean with no side
abbrev pub join_all : List (Report BatchPosition) → Result Joined Refusal
join_all [] = from_side Neither Clean
join_all (b ∷ bs) = again b (join_all bs)

-- any order and any bracketing: a report and the buffer with its records at each leaf
pub data Tree : Type 0 where
  none : Tree
  leaf : Report BatchPosition → List ℕ → Tree
  both : Tree → Tree → Tree

-- what stands at the root: a report and the buffer of the side that stands; or the refusal of a join within
pub data Standing : Type 0 where
  stands : Report BatchPosition → List ℕ → Standing
  refused : Refusal → Standing

abbrev pub side_of : Side → List ℕ → List ℕ → List ℕ
side_of Neither x y = []
side_of Left x y = x
side_of Right x y = y

abbrev pub standing : Result Joined Refusal → List ℕ → List ℕ → Standing
standing (Ok j) x y = stands j.report (side_of j.side x y)
standing (Err r) x y = refused r

abbrev pub meet : Standing → Standing → Standing
meet (stands a x) (stands b y) = standing (joined a b) x y
meet (stands a x) (refused r) = refused r
meet (refused r) m = refused r

abbrev pub join_tree : Tree → Standing
join_tree none = stands Clean []
join_tree (leaf b x) = stands b x
join_tree (both t u) = meet (join_tree t) (join_tree u)
