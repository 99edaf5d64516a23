pub mod Outcomes
pub mod Links
pub mod Answers
