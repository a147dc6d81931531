pub mod Traces
pub mod Calls
