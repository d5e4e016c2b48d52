pub mod Attending
pub mod Barring
pub mod Programs
