pub mod Distances
pub mod Fields
pub mod Growing
pub mod Lazy
pub mod Nearest
pub mod Places
pub mod Tables
pub mod Sides
