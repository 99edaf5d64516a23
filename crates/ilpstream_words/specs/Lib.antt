pub mod Program
pub mod Pairs
pub mod Words
pub mod Laws
