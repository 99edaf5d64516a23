pub mod Quoting
pub mod Lines
pub mod Pacing
pub mod Progress
pub mod Waiting
pub mod Queue
pub mod Writing
pub mod Laws
