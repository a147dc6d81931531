pub mod Runs
pub mod Digits
pub mod Steps
pub mod Standing
pub mod Found
pub mod Order
pub mod Spelt
