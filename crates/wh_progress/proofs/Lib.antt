pub mod Counting
pub mod Sizes
pub mod Horizons
pub mod Awaited
pub mod Stairs
pub mod Turns
pub mod Weighing
pub mod Reaching
pub mod Standing
pub mod Rounds
pub mod Spans
pub mod Delivered
pub mod Having
pub mod Due
mod WorkedRounds
