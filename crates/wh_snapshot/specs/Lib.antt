pub mod Snapshots
pub mod Kept
