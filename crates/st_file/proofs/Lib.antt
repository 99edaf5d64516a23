pub mod Asks
pub mod Items
pub mod Sending
pub mod Storing
