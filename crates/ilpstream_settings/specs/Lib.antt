pub mod Numbers
pub mod Sources
pub mod Settings
pub mod Ledger
pub mod Table
pub mod Faults
pub mod Whole
pub mod Errors
