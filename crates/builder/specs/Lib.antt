pub mod Call
pub mod Emit
pub mod Faults
pub mod Working
