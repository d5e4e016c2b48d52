pub mod Paths
pub mod Conflicts
pub mod Walks
pub mod Laws
