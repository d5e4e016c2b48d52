pub mod Turns
pub mod Joining
mod Asked
mod Teams
mod Logged
mod Hosted
