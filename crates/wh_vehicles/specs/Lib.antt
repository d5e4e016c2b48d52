pub mod Plans
pub mod Reports
pub mod Notices
pub mod Driving
pub mod Visits
pub mod Stands
