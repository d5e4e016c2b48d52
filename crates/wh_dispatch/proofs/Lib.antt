pub mod Texts
pub mod Members
pub mod Watching
pub mod Taking
pub mod Staying
pub mod Happening
pub mod Steps
mod Late
mod Stands
pub mod Serving
pub mod Kept
pub mod Manning
mod Dispatched
pub mod Rows
pub mod Together
pub mod SettingOut
