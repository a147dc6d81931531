pub mod Answers
pub mod Seen
pub mod Meaning
pub mod Until
