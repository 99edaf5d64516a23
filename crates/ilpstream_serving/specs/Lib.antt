pub mod Errors
pub mod Moments
pub mod Answering
pub mod Telling
pub mod Links
