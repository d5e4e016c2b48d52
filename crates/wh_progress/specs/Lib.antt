pub mod Progress
pub mod Laws
pub mod Rows
