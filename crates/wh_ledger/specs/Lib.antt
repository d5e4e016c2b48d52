-- the definitions of the delivery ledger
pub mod Ledgers
pub mod Places
pub mod LedgerTexts
pub mod Laws
