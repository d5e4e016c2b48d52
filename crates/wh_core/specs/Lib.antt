pub mod States
pub mod Steps
pub mod Laws
pub mod Rows
pub mod Ordinary
pub mod Stopping
pub mod Homes
