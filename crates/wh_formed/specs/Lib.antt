pub mod Verdicts
pub mod Cuts
pub mod Fills
pub mod Rounds
pub mod Labels
