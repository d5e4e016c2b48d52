-- The lemmas of the crate.
pub mod Shapes
pub mod Leaf
pub mod Flags
pub mod Turns
pub mod Words
pub mod Rows
pub mod Top
pub mod Values
pub mod Names
mod Entered
pub mod Singles
pub mod Given
pub mod Serving
pub mod Menus
pub mod Ruled
pub mod Fleets
pub mod Lines
pub mod Spells
pub mod Uses
pub mod Exact
pub mod Once
pub mod Asks
pub mod Amiss
