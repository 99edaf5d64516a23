pub mod Pieces
pub mod Transfers
pub mod WordsTaken
pub mod Asked
pub mod Tables
pub mod Locals
