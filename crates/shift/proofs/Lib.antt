-- The laws that several proofs cite, each once for every width; and document 01's sentences.
pub mod Complement
pub mod Rotate
pub mod Codes
pub mod Floor
pub mod Rules
