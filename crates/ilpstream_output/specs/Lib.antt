pub mod Errors
pub mod Texts
pub mod Endings
pub mod Row
pub mod Rows
pub mod Explaining
pub mod Explain
