pub mod Bits
pub mod Endings
pub mod Insertions
pub mod Laying
pub mod Marking
pub mod Pointwise
pub mod Runs
pub mod Views
