-- A gate list that the code holds, as an accepted list. Assumes nothing.
use Rattle.std.proofs.Common.{ℕ, ◌≤◌, ◌<◌, length, get_or, refl}
use Rattle.scratch.specs.declared.judge.GateList.{GateList}
use Rattle.scratch.specs.Working.Arrays.{start}
use Rattle.scratch.specs.Working.{wires_in}
use Rattle.scratch.proofs.Cut.{Good, close_at}

-- a gate ends where it begins or later, and within the mentions
pub gate_within : (list : GateList) (g : ℕ) → g < length list.ends.now → (start 0 list.ends.now g ≤ get_or list.ends.now g 0) × (get_or list.ends.now g 0 ≤ length list.mentions.now)
gate_within list g h = close_at 0 (length list.mentions.now) list.ends.now g list.closed h

-- of the slots only their number counts, which is that of the marks
pub good_list : (list : GateList) → Good (wires_in list) list.ends.now list.mentions.now list.marks.now list.marks.now
good_list list =
    record { few = list.few_wires; gates = list.few_gates; listed = list.few_mentions; cut = list.closed; inside = list.known; marked = refl; slotted = refl }
