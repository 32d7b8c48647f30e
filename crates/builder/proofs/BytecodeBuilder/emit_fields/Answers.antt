-- `builder::BytecodeBuilder::emit_fields` meets its contract: the room that is reserved decides. Assumes nothing.
use Rattle.std.proofs.Common.{◌+◌, ◌*◌, ◌∷◌, length, rules, arith}
use Rattle.bytecode.specs.Layout.{les}
use Rattle.bytecode.proofs.Words.{length-les}
use Rattle.builder.proofs.Room.{emitted, refused_room}
use Rattle.builder.proofs.BytecodeBuilder.emit_fields.Goals as goal

pub returns-in_err-next : goal.returns-in_err-next
returns-in_err-next c =
    let a = c.args in
    refused_room (a.op ∷ les a.fields.now) a.self a.buf.now (1 + 4 * length a.fields.now) (omega (arith, length-les a.fields.now))
    c.reserve.ensures.answer c.in_err-next.was (search rules)

pub returns : goal.returns
returns c =
    let a = c.args in
    emitted (a.op ∷ les a.fields.now) a.self a.buf.now (1 + 4 * length a.fields.now) (omega (arith, length-les a.fields.now))
    c.reserve.ensures.answer c.in_ok-next.was c.put_fields.ensures
