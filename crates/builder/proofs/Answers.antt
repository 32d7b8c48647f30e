-- An emitter's contract settles its answer and the buffer. Assumes nothing.
use Prim.Native.Nat.{ℕ}
use mathlib.Core.Path.{◌≡◌, sym, ap₂, ◌∙◌}
use mathlib.Core.List.{List}
use Rattle.std.specs.Prelude.{Result, Ok, Err}
use Rattle.refusal.specs.Number.{number_of}
use Rattle.refusal.specs.declared.Refusal.{Refusal}
use Rattle.refusal.proofs.Numbers.{number_names_one}
use Rattle.builder.specs.Call.{Call}
use Rattle.builder.specs.Emit.{said, Emits}
use Rattle.builder.specs.declared.BytecodeBuilder.{BytecodeBuilder}
use Rattle.builder.specs.declared.Unemitted.{Unemitted}
use Rattle.builder.proofs.RoundTrips.{apart}

-- two answers that say the same are the same
pub said-one : (a b : Result BytecodeBuilder Unemitted) → said a ≡ said b → a ≡ b
said-one (Ok x) (Ok y) e = cc
said-one (Ok x) (Err y) e = absurd (apart (number_of y.refusal) y.builder x (sym e))
said-one (Err x) (Ok y) e = absurd (apart (number_of x.refusal) x.builder y e)
said-one (Err x) (Err y) e =
    let n : number_of x.refusal ≡ number_of y.refusal = cc in
    let m : x.builder ≡ y.builder = cc in
    let r : x.refusal ≡ y.refusal = number_names_one x.refusal y.refusal n in
    ap₂ (λ (q : Refusal) (b : BytecodeBuilder). Err (record { refusal = q; builder = b })) r m

pub emitted_one : (c : Call) (b : BytecodeBuilder) (s : List ℕ) (r r' : Result BytecodeBuilder Unemitted) (after after' : List ℕ) → Emits c b s r after → Emits c b s r' after' → (r ≡ r') × (after ≡ after')
emitted_one c b s r r' after after' x y = (said-one r r' (x.answer ∙ sym y.answer), x.bytes ∙ sym y.bytes)
