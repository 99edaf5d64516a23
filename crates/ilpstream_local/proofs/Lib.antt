pub mod Cuts
pub mod Asides
pub mod Joined
pub mod Stops
pub mod Plays
pub mod Rounds
