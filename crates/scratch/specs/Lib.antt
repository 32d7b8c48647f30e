-- What a reader must believe; `Working` alone is about how the code holds it.
pub mod Gates
pub mod Accept
pub mod Policies
pub mod Answer
pub mod Assignments
pub mod Working
