pub mod Bits
pub mod Halves
pub mod Lists
pub mod Order
