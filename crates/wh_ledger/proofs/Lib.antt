-- lemmas of the delivery ledger
pub mod Counting
pub mod Clients
pub mod Ordered
