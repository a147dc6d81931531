pub mod Figures
pub mod Table
pub mod Bytes
pub mod Places
pub mod Back
pub mod Faults
