pub mod Stops
pub mod file
pub mod script
