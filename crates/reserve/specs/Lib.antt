pub mod Reserves
