pub mod Crew
pub mod Accounts
pub mod Counts
