pub mod Calls
pub mod View
pub mod Go
