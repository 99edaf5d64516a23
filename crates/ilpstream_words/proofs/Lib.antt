pub mod Commands
pub mod PlainWords
pub mod Answered
pub mod Counted
