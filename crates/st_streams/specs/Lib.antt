pub mod Numbers
pub mod Table
pub mod Slots
pub mod Laws
pub mod Errors
