pub mod Errors
pub mod Parts
pub mod Playing
pub mod Schedule
pub mod Sends
pub mod Endings
