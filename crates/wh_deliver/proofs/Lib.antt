mod Settled
pub mod Grown
mod Barring
mod Joined
