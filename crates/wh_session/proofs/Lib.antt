pub mod Following
pub mod Proceeding
pub mod Taking
