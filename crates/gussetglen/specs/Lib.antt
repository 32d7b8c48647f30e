pub mod Packing
pub mod Boundary
