pub mod Payloads
pub mod Written
pub mod Lengths
pub mod Memory
