pub mod Firsts
pub mod Plans
pub mod Optionals
pub mod Later
pub mod Answered
pub mod Starts
pub mod Lasting
pub mod Ticks
