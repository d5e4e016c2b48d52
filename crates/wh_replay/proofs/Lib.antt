pub mod Returns
pub mod Placing
pub mod Giving
pub mod Serving
pub mod Until
pub mod Answered
pub mod Appended
pub mod Told
pub mod Scripting
pub mod Whole
-- re-exported for the crates above
pub use Rattle.wh_lines.proofs.Written
