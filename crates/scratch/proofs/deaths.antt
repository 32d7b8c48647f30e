-- Laws of the functions of `deaths`.
pub mod Stamps
pub mod Chains
