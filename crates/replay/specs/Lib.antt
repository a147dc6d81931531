pub mod Asked
pub mod Told
pub mod Summary
pub mod Start
pub mod Going
pub mod Day
