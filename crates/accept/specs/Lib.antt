pub mod Check
pub mod Sound
pub mod Faults
pub mod Working
