-- The lemmas of the crate.
pub mod Named
pub mod Numbers
pub mod Listed
