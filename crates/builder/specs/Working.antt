-- Working definitions: what contracts of inner functions cite. No reader of document 01 needs them. Assumes nothing.
use Rattle.std.specs.Prelude.{ℕ, Result, Ok, Err, cond}
use Rattle.refusal.specs.declared.Refusal.TheVariants as R
use Rattle.builder.specs.Emit.{no_room, advanced}
use Rattle.builder.specs.declared.BytecodeBuilder.{BytecodeBuilder}
use Rattle.builder.specs.declared.Unemitted.{Unemitted}

-- the state after n more bytes in a buffer of m, or 11
unfoldable pub reserved : BytecodeBuilder → ℕ → ℕ → Result BytecodeBuilder Unemitted
reserved b m n = cond (no_room b m n) (Err (record { refusal = R.NoRoom; builder = b })) (Ok (advanced b n))
