pub mod Back
pub mod Right
pub mod Rotated
pub mod Same
pub mod Spelling
pub mod Storing
