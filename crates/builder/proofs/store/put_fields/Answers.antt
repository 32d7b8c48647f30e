-- `builder::store::put_fields` meets its contract: the opcode, and the fields behind it. Assumes nothing.
use Rattle.std.proofs.Common.{map-id, ◌∙◌, arith}
use Rattle.std.proofs.Math.ListN.{length-set}
use Rattle.bytecode.specs.Layout.{les}
use Rattle.bytecode.proofs.Words.{length-les}
use Rattle.builder.proofs.Stores.{headed}
use Rattle.builder.proofs.store.put_fields.Goals as goal

pub returns : goal.returns
returns c =
    let a = c.args in
    let w = les a.fields.now in
    headed a.buf.now w a.op _ (omega (arith, length-les a.fields.now)) (c.put_words.ensures ∙ rw (map-id a.fields.now))
    (simp length-set (omega (arith, length-les a.fields.now)))
