pub mod Sent
pub mod Laws
pub mod Runs
pub mod Chunks
