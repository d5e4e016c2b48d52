pub mod Duties
pub mod Asked
pub mod Laws
