pub mod Lives
pub mod Twice
