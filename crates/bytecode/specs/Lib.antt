pub mod Opcode
pub mod Layout
pub mod Instruction
pub mod Encode
pub mod Parse
pub mod Program
pub mod Faults
pub mod Working
