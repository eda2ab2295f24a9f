pub mod Bound
pub mod Growing
pub mod Layout
pub mod Leaving
pub mod Runs
