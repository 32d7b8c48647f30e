-- `accept::judge` meets its contract: the registers of a whole instruction lie in its bytes. Assumes nothing.
use Rattle.std.proofs.Common.{get_or}
use Rattle.bytecode.specs.Opcode.{shape_of}
use Rattle.bytecode.proofs.Parses.{places_in}
use Rattle.accept.proofs.judge.Goals as goal

pub judge_registers-requires : goal.judge_registers-requires
judge_registers-requires c =
    let s = c.args.code.now in
    rw (c.places_of.ensures, c.shape_of.ensures, c.byte-op.ensures)
    (places_in (shape_of (get_or s 0 0)) s c.requires.bytes c.requires.size c.requires.within)
