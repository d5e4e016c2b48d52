pub mod Taken
pub mod Closed
pub mod Barred
pub mod Filled
pub mod Laws
