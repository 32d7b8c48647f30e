-- Document 01, "Numbered refusals": of the refusals that could be given, the lowest number is. Assumes nothing.
use Rattle.std.specs.Prelude.{ℕ, ◌<◌}

-- k is the lowest number that F holds of, F being what each number is given for
pub record Lowest (F : ℕ → Type 0) (k : ℕ) : Type 0 where
  pub given : F k
  pub first : (j : ℕ) → j < k → F j → ⊥
