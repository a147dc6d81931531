pub mod Computed
pub mod Floors
pub mod OneVerdict
pub mod Runs
