pub mod Planning
pub mod Reading
pub mod Digits
pub mod Arriving
pub mod Standing
