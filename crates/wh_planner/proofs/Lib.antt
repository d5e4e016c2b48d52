pub mod Routes
pub mod ClearWays
