pub mod Slots
pub mod Board
