pub mod Pacing
pub mod Hosting
pub mod Displays
pub mod Boards
pub mod Runs
