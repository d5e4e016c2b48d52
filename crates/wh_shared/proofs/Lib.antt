pub mod SharedLemmas
pub mod Crossing
