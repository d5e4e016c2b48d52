mod Counting
mod Columns
mod Fitting
pub mod Callers
