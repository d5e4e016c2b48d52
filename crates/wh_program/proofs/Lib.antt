pub mod Starved
pub mod Whole
mod Late
mod Screens
mod Opened
mod Stated
