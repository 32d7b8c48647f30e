-- Laws of the functions of `pooled`.
pub mod Fair
pub mod EachGate
pub mod Steps
pub mod Runs
