mod Attended
pub mod Callers
mod ByOptions
mod Wholes
mod SharesFit
