pub mod Joined
pub mod Keeping
pub mod Machines
pub mod Parts
pub mod Sessions
pub mod Settling
pub mod Steps
