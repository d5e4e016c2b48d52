pub mod Asking
pub mod Digits
pub mod Telling
pub mod Fronting
