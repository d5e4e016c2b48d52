pub mod Judged
pub mod Courses
pub mod Following
pub mod Verifying
pub mod Written
-- handed on, for the crates above
pub use Rattle.wh_book.specs.Drafts
