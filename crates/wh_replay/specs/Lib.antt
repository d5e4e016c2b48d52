pub mod Answers
pub mod Answering
pub mod Appending
pub mod Replying
pub mod Machines
pub mod Scripts
pub mod Clocks
-- re-exported for the crates above
pub use Rattle.wh_book.specs.Drafts
pub use Rattle.wh_token.specs.Commands
pub use Rattle.wh_token.specs.Fleet
pub use Rattle.wh_token.specs.Runs
