pub mod Bools
pub mod Below
pub mod Digits
pub mod HalfLaws
pub mod Rules
