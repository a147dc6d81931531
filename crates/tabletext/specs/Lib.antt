pub mod Faults
pub mod Words
pub mod Forms
pub mod View
pub mod Lines
pub mod Read
pub mod Faulty
pub mod Laws
