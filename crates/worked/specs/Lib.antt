pub mod Tables
pub mod Run
pub mod Worked
pub mod OneVerdict
