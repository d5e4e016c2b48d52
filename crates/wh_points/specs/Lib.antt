pub mod Points
pub mod Layouts
pub mod Formed
pub mod PointLines
pub mod PointFiles
pub mod PointGrammar
