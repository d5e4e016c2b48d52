-- The definitions that the contracts cite.
pub mod Setting
pub mod Options
pub mod Menu
pub mod Reads
pub mod Requests
