pub mod Pieces
pub mod Totalled
pub mod Tables
pub mod Restoring
pub mod Ledgers
