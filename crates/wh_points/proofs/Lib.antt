pub mod Parkings
pub mod Lookups
pub mod Additions
pub mod LineSteps
pub mod ReadSteps
pub mod LayoutLaws
pub mod GrammarLaws
pub mod FirstFault
