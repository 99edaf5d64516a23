pub mod Faults
pub mod Tallies
pub mod Turns
pub mod FailAt
