pub mod Clients
pub mod Works
pub mod Lives
pub mod Hosts
-- re-exported for the crates above
pub use Rattle.wh_crew.specs.Calls
pub use Rattle.wh_crew.specs.Lists
pub use Rattle.wh_crew.specs.Pasts
pub use Rattle.wh_crew.specs.Work
