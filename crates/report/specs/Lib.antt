pub mod Sizes
pub mod Position
pub mod Mapped
pub mod Join
pub mod Told
pub mod Records
pub mod Working
