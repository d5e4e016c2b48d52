pub mod Handing
pub mod Prefaces
pub mod Stopped
pub mod Standing
pub mod Chains
