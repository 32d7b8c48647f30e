pub mod Column
pub mod Working
