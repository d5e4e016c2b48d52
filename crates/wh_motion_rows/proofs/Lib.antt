pub mod Nodes
pub mod Layered
pub mod Trails
