pub mod Scans
pub mod Performs
pub mod Lists
pub mod Runs
pub mod Calls
pub mod Refusals
pub mod Meanings
