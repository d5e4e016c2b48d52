pub mod Ways
pub mod Telling
pub mod Detours
pub mod Filling
pub mod Filtered
pub mod Closing
