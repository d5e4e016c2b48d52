pub mod Arrivals
pub mod Standing
