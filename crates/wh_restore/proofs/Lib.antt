pub mod Hearing
pub mod Flawed
pub mod Following
pub mod Finding
pub mod Writing
