pub mod Delivers
pub mod OpenOrders
-- re-exported for the crates above
pub use Rattle.wh_replay.specs.Appending
pub use Rattle.wh_session.specs.Machines
