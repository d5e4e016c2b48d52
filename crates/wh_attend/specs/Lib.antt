pub mod Attends
pub mod Guests
pub mod Shares
