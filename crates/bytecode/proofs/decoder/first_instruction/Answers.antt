-- `bytecode::decoder::first_instruction` meets its contract: what is parsed, by the length. Assumes nothing.
use Rattle.std.proofs.Common.{◌∙◌, sym, arith}
use Rattle.std.proofs.lemmas.Result.{err_from_is_err_and}
use borrow.Author.Tests.{lt-ltb, le-ltb}
use Rattle.bytecode.specs.Opcode.{shape_of}
use Rattle.bytecode.specs.Parse.{sized}
use Rattle.bytecode.specs.Working.{found}
use Rattle.bytecode.proofs.Parses.{parse_none, first_is, parse_is, has_size, variant_of_lem}
use Rattle.bytecode.proofs.decoder.first_instruction.Goals as goal

pub returns-in_default : goal.returns-in_default
unfolding found
returns-in_default c = sym (parse_none c.args.code.now (omega (arith, c.in_default.ensures.item.3)))

pub returns-in_err-length : goal.returns-in_err-length
unfolding found sized
returns-in_err-length c =
    let i = c.in-Some.ensures.item in
    let h = first_is c.args.code.now c.in-Some.field-0.now i.0 i.1 in
    let p = err_from_is_err_and c.from_residual.result c.from_residual.ensures.1 in
    rw (p.1, p.2) (sym (parse_is c.args.code.now c.in-Some.field-0.now _ _ _ h c.shape_of.ensures c.size_of.ensures c.in_err-length.was))

pub returns-then-short : goal.returns-then-short
unfolding found sized
returns-then-short c =
    let i = c.in-Some.ensures.item in
    let h = first_is c.args.code.now c.in-Some.field-0.now i.0 i.1 in
    rw (parse_is c.args.code.now c.in-Some.field-0.now _ _ _ h c.shape_of.ensures c.size_of.ensures c.in_ok-length.was, lt-ltb _ _ c.if-short.true)

pub returns-then-variant_over : goal.returns-then-variant_over
unfolding found sized
returns-then-variant_over c =
    let i = c.in-Some.ensures.item in
    let h = first_is c.args.code.now c.in-Some.field-0.now i.0 i.1 in
    rw (
      parse_is c.args.code.now c.in-Some.field-0.now _ _ _ h c.shape_of.ensures c.size_of.ensures c.in_ok-length.was,
      le-ltb _ _ c.if-short.false,
      ← h.1,
      variant_of_lem,
      ← c.variant_over.ensures,
      c.if-variant_over.true,
    )

pub returns : goal.returns
unfolding found sized
returns c =
    let i = c.in-Some.ensures.item in
    let h = first_is c.args.code.now c.in-Some.field-0.now i.0 i.1 in
    let carried = has_size (shape_of c.in-Some.field-0.now) _ c.in_ok-length.length (rw c.shape_of.ensures at (sym c.size_of.ensures ∙ c.in_ok-length.was)) in
    rw (
      parse_is c.args.code.now c.in-Some.field-0.now _ _ _ h c.shape_of.ensures c.size_of.ensures c.in_ok-length.was,
      le-ltb _ _ c.if-short.false,
      ← h.1,
      variant_of_lem,
      ← c.variant_over.ensures,
      c.if-variant_over.false,
      c.instruction_of.ensures carried,
    )
