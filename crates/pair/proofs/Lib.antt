pub mod Both
pub mod Pairs
