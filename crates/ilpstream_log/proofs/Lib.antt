pub mod Pieces
pub mod Short
pub mod Waits
pub mod Found
pub mod Newlines
pub mod Counts
pub mod Dates
