pub mod Lists
pub mod Kept
pub mod Calls
pub mod Earlier
-- re-exported for the crates above
pub use Rattle.wh_points.specs.Formed
pub use Rattle.wh_book.specs.Drafts
pub use Rattle.wh_board.specs.Pasts
pub use Rattle.wh_token.specs.Commands
pub use Rattle.wh_token.specs.Fleet
pub use Rattle.wh_token.specs.Runs
