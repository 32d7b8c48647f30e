pub mod Hex
pub mod Line
pub mod Tally
