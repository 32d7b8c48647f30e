pub mod Arithmetic
pub mod Bitwise
pub mod Hints
pub mod Assertions
