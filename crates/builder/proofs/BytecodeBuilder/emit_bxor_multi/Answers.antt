-- `builder::BytecodeBuilder::emit_bxor_multi` meets its contract: the room that is reserved decides. Assumes nothing.
use Rattle.std.proofs.Common.{◌+◌, ◌*◌, [], ◌∷◌, length, ◌∙◌, rules, arith, map-id}
use Rattle.bytecode.specs.Instruction.{make}
use Rattle.bytecode.specs.Encode.{encode}
use Rattle.bytecode.proofs.Words.{length-les}
use Rattle.builder.proofs.Room.{emitted, refused_room}
use Rattle.builder.proofs.BytecodeBuilder.emit_bxor_multi.Goals as goal

pub returns-in_err-next : goal.returns-in_err-next
returns-in_err-next c =
    let a = c.args in
    refused_room (encode (make 6 (a.dst ∷ []) a.srcs.now [])) a.self a.buf.now (9 + 4 * length a.srcs.now) (omega (arith, length-les a.srcs.now))
    c.reserve.ensures.answer c.in_err-next.was (search rules)

pub returns : goal.returns
returns c =
    let a = c.args in
    emitted (encode (make 6 (a.dst ∷ []) a.srcs.now [])) a.self a.buf.now (9 + 4 * length a.srcs.now) (omega (arith, length-les a.srcs.now))
    c.reserve.ensures.answer c.in_ok-next.was (c.put_counted.ensures ∙ rw (map-id a.srcs.now))
