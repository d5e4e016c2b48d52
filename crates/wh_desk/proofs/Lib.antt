pub mod Entries
pub mod Counts
pub mod Beginnings
pub mod Receipts
pub mod Telling
pub mod Handing
pub mod Asking
pub mod Sharing
mod Recalled
