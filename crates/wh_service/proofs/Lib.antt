pub mod Spared
pub mod Playing
pub mod Behind
pub mod Unverified
pub mod InRange
pub mod Asked
pub mod Lasting
pub mod Openings
pub mod Replayed
pub mod Drove
mod Verdicts
mod Chaining
mod Convoyed
mod Undelivered
mod Unstated
mod Stood
