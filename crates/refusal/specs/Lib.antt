pub mod Told
pub mod Outcome
