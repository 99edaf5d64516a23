pub mod Spending
mod Above
