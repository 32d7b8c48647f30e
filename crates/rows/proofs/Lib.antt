pub mod Stripes
pub mod Columns
