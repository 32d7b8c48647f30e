pub mod Laws
pub mod Lowests
pub mod Noted
