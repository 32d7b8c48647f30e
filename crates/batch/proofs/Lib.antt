pub mod Accepted
pub mod Cuts
pub mod Arrays
pub mod Leaves
pub mod Joins
pub mod Demands
pub mod Instances
