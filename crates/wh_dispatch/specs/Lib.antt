pub mod Crews
pub mod Visiting
pub mod Lines
pub mod Keeping
pub mod Scripts
pub mod Laws
pub mod SettingOut
pub mod Manning
-- re-exported for the crates above
pub use Rattle.wh_vehicles.specs.Plans
pub use Rattle.wh_vehicles.specs.Visits
