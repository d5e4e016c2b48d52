pub mod Room
pub mod ReadCounts
pub mod Cuts
pub mod Parts
pub mod Collecting
pub mod Written
mod PlainLines
