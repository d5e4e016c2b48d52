pub mod MapFaults
pub mod PointFaults
