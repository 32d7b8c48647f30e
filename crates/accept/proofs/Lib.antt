pub mod Fours
pub mod Judging
pub mod Walks
pub mod Soundness
pub mod Acceptance
pub mod Refusals
pub mod Answers
