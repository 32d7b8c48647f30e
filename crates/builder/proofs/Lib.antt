pub mod Stores
pub mod Room
pub mod Calls
pub mod RoundTrips
pub mod EmitFaults
pub mod Chains
pub mod Answers
