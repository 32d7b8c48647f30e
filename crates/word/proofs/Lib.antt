pub mod Adder
pub mod Subtract
pub mod Rules
