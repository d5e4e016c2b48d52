pub mod Pasts
pub mod Boards
pub mod Rules
-- re-exported for the crates above
pub use Rattle.wh_book.specs.Drafts
