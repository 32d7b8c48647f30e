pub mod Cut
pub mod Batch
pub mod Demands
