pub mod Optional
pub mod View
pub mod Turn
pub mod Later
pub mod Tick
pub mod Start
pub mod Lasting
