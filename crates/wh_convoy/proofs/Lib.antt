mod Filing
mod Joining
mod Recordings
mod Standing
pub mod Kept
mod Found
mod Ridden
