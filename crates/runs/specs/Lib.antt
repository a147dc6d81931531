pub mod Faults
pub mod State
pub mod Calls
pub mod History
pub mod Law
pub mod Run
