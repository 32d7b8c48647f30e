-- Laws of the functions of `judge`.
pub mod Loops
