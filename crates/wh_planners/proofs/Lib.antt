mod Answers
mod Joined
pub mod Patience
pub mod Services
pub mod Crossing
pub mod Staying
