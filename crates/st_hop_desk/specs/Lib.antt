pub mod Errors
pub mod Desk
pub mod Stored
pub mod Board
pub mod Deadlines
pub mod Serving
