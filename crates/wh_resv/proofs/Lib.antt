pub mod Later
pub mod Telling
pub mod Passing
