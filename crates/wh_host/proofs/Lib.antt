pub mod Screens
pub mod Hosts
pub mod Keeping
pub mod Settling
pub mod Turning
pub mod Sending
pub mod Boards
