pub mod Faults
pub mod Names
pub mod Page
pub mod Pages
pub mod Rows
pub mod Report
