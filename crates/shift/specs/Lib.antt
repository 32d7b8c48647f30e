pub mod Shift
pub mod Variant
