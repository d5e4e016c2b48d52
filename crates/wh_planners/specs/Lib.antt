pub mod Patience
pub mod Services
pub mod Sharing
