-- Working definitions: what contracts of inner functions cite. No reader of document 01 needs them. Assumes nothing.
use Rattle.std.specs.Prelude.{ℕ, ◌≤◌, ◌≡◌, List, [], ◌∷◌, Bool, false, cond, not, ◌&&◌, eqb, length, get_or, map, Result, Ok, Err}
use Rattle.std.specs.Int.{w32, from_le_bytes}
use Rattle.refusal.specs.Number.{number_of}
use Rattle.refusal.specs.declared.Refusal.{Refusal}
use Rattle.refusal.specs.declared.Refusal.TheVariants as R
use Rattle.common.specs.Lists.{all_below}
use Rattle.shift.specs.Variant.{bad_amount}
use Rattle.bytecode.specs.Opcode.{shape_of}
use Rattle.bytecode.specs.Layout.{size_as}
use Rattle.accept.specs.Check.{Verdict, accepted, refusal, refuse, hint_listed, overlap}

-- the bytes of a shift whose amount is too large for its variant
abbrev pub amount_over : ℕ → ℕ → ℕ → Bool
amount_over op variant amount = eqb op 0x10 && bad_amount variant amount

-- `hint_listed` by a count of dimensions and the first of them
abbrev pub listed_by : ℕ → ℕ → ℕ → ℕ → ℕ → Bool
listed_by id d k ins outs = cond (eqb d 0) (hint_listed id [] ins outs) (cond (eqb d 1) (hint_listed id (k ∷ []) ins outs) false)

-- what the judging of one instruction says, each of its refusals being at the opcode byte
abbrev pub judging : Result Unit Refusal → Verdict
judging (Ok _) = accepted
judging (Err r) = refusal (number_of r) 0

-- registers by their bytes
abbrev pub numbers : List (List ℕ) → List ℕ
numbers = map (λ (bytes : List ℕ). from_le_bytes w32 bytes)

-- 9 and 10, by the registers
unfoldable pub judged_registers : ℕ → List ℕ → List ℕ → Verdict
judged_registers rows ds ss =
    refuse (not (all_below rows ds && all_below rows ss)) R.BadRegister (refuse (overlap ds ss) R.Overlap accepted)

-- the bytes start with a whole instruction
pub record Held (s : List ℕ) : Type 0 where
  pub bytes : ℕ
  pub size : size_as (shape_of (get_or s 0 0)) s ≡ Ok bytes
  pub within : bytes ≤ length s
