pub mod Texts
pub mod Words
pub mod Settings
pub mod Transfers
pub mod Streams
pub mod Local
pub mod Endings
pub mod Process
