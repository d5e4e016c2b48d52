pub mod Texts
pub mod Screens
