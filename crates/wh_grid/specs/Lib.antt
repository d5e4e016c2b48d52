pub mod Grids
pub mod Cells
pub mod Candidates
pub mod Faults
pub mod MapLines
pub mod Maps
pub mod Grammar
