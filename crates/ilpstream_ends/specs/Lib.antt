pub mod Answering
pub mod Lobby
pub mod Keeping
pub mod Replies
pub mod Outcomes
