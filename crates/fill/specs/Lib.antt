pub mod Meaning
pub mod Run
pub mod Faults
pub mod Working
