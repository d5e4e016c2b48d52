pub mod Faults
pub mod Files
pub mod Convoys
pub mod Laws
pub mod Standing
pub mod Beginning
pub mod Riding
