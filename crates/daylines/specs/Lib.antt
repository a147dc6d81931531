pub mod Lines
pub mod Remarks
