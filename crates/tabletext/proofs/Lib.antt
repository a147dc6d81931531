pub mod Find
pub mod Answer
pub mod Pieces
pub mod Checks
pub mod Names
pub mod LineLaw
pub mod TextLaw
