-- Document 01's table of refusals in its words: what a run gives each number for. The law that it gives them exactly then is `refused_exactly` of
-- proofs/. Assumes nothing.
use Rattle.std.specs.Prelude.{ℕ, ◌+◌, ◌*◌, ◌<◌, ◌≡◌, length}
use Rattle.accept.specs.Faults as program
use Rattle.report.specs.Sizes.{max_width, max_cap, record_words}
use Rattle.fill.specs.Run.{Call}

-- a row, width, array or stripe rule is broken
pub data ShapeFault (c : Call) : Type 0 where
  rows : 8192 < c.rows → ShapeFault c
  width : max_width < c.width → ShapeFault c
  array : (length c.values ≡ c.rows * c.width → ⊥) → ShapeFault c
  stripe : c.width < c.first + c.count → ShapeFault c

-- cap over 256, or the report buffer has another length
pub data CapFault (c : Call) : Type 0 where
  cap : max_cap < c.cap → CapFault c
  buffer : (length c.report ≡ c.cap * record_words → ⊥) → CapFault c

-- 1, then 2, then what the program check refuses
pub data Refused (c : Call) : ℕ → ℕ → Type 0 where
  bad_shape : ShapeFault c → Refused c 1 0
  bad_cap : (ShapeFault c → ⊥) → CapFault c → Refused c 2 0
  bad_program : {k at : ℕ} → (ShapeFault c → ⊥) → (CapFault c → ⊥) → program.Refused c.code c.rows k at → Refused c k at
