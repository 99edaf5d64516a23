pub mod Errors
pub mod Mac
pub mod Keys
pub mod Sealed
pub mod Laws
