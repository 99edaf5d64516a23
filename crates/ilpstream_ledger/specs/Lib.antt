pub mod Errors
pub mod Lives
pub mod Laws
pub mod Names
pub mod Placed
pub mod Placing
pub mod Settling
pub mod Texts
