pub mod AllFrom
pub mod Flights
pub mod Slots
pub mod Spent
