-- `builder::BytecodeBuilder::emit_hint` meets its contract: the dimensions, and then the room that is reserved, decide. Assumes nothing.
use Rattle.std.proofs.Common.{ℕ, ◌≡◌, ◌+◌, ◌*◌, min, List, ◌∷◌, ◌++◌, length, Result, refl, sym, ap, ◌∙◌, rules, arith, length-append}
use mathlib.Core.Bool.{not}
use Rattle.bytecode.specs.Instruction.{make}
use Rattle.bytecode.specs.Encode.{encode}
use Rattle.builder.specs.Working.{reserved}
use Rattle.builder.specs.declared.BytecodeBuilder.{BytecodeBuilder}
use Rattle.builder.specs.declared.Unemitted.{Unemitted}
use Rattle.bytecode.proofs.Words.{length-les}
use Rattle.builder.proofs.Room.{emitted, refused_room, judged, refused_dimension, capped}
use Rattle.builder.proofs.BytecodeBuilder.emit_hint.Goals as goal

abbrev laid : ℕ → List ℕ → List ℕ → List ℕ → List ℕ
laid id dims ins outs = encode (make 0x80 outs ins (id ∷ dims))

abbrev size : List ℕ → List ℕ → List ℕ → ℕ
size dims ins outs = 17 + 4 * (length dims + length ins + length outs)

len : (id : ℕ) (dims ins outs : List ℕ) → length (laid id dims ins outs) ≡ size dims ins outs
len id dims ins outs =
    let fs = length ins ∷ length outs ∷ (ins ++ outs) in
    omega (arith, length-les (dims ++ fs), length-append dims fs, length-append ins outs)

-- the room that was asked for is the hint's
asked : (b : BytecodeBuilder) (m n k : ℕ) (r : Result BytecodeBuilder Unemitted) → k ≡ min n 65537 → r ≡ reserved b m k → r ≡ reserved b m n
asked b m n k r e a = a ∙ ap (reserved b m) e ∙ capped b m n

pub returns-then-not-dims_fit : goal.returns-then-not-dims_fit
returns-then-not-dims_fit c = refused_dimension _ _ _ _ c.refuse.ensures (ap not (sym c.dims_fit.ensures ∙ c.if-not-dims_fit.true))

pub returns-in_err-next : goal.returns-in_err-next
returns-in_err-next c =
    let a = c.args in
    let d = a.dimensions.now in
    let i = a.inputs.now in
    let o = a.outputs.now in
    judged _ _ _ _ _ _ _ refl (ap not (sym c.dims_fit.ensures ∙ c.if-not-dims_fit.false))
    (refused_room (laid a.id d i o) a.self a.buf.now (size d i o) (len a.id d i o)
    (asked a.self (length a.buf.now) (size d i o) _ _ c.hint_bytes-more.ensures c.reserve.ensures.answer) c.in_err-next.was (search rules))

pub returns : goal.returns
returns c =
    let a = c.args in
    let d = a.dimensions.now in
    let i = a.inputs.now in
    let o = a.outputs.now in
    judged _ _ _ _ _ _ _ refl (ap not (sym c.dims_fit.ensures ∙ c.if-not-dims_fit.false))
    (emitted (laid a.id d i o) a.self a.buf.now (size d i o) (len a.id d i o)
    (asked a.self (length a.buf.now) (size d i o) _ _ c.hint_bytes-more.ensures c.reserve.ensures.answer) c.in_ok-next.was c.put_hint.ensures)
