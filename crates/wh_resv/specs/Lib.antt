pub mod Others
pub mod Calls
pub mod Questions
pub mod Looks
pub mod Telling
