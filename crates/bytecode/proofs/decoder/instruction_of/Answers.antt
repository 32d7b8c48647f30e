-- `bytecode::decoder::instruction_of` meets its contract: each arm by its key, the last by the keys that it is not. Assumes nothing.
use Rattle.std.proofs.Common.{ℕ, arith}
use Rattle.bytecode.specs.Opcode.{table}
use Rattle.bytecode.specs.Instruction.{inst}
use Rattle.bytecode.specs.Parse.{read_as}
use Rattle.bytecode.proofs.Tables.{settle, barred}
use Rattle.bytecode.proofs.decoder.instruction_of.Goals as goal

pub returns-in_default : goal.returns-in_default
unfolding inst read_as
returns-in_default c = λ h.
    let o : ℕ = c.args.op in
    settle o 0x80
    (λ e. rw (e, c.hint.ensures))
    (λ n. absurd ((barred table o Unit (omega arith)).0 h))
