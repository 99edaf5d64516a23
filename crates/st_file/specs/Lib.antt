pub mod Errors
pub mod Sinks
pub mod Sources
pub mod Spending
pub mod Sends
pub mod Stores
pub mod Rings
