pub mod Completing
pub mod MapLaws
pub mod MapFound
pub mod PointFound
pub mod PointLaws
