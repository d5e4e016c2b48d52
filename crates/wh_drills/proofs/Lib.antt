pub mod Begun
pub mod Looking
