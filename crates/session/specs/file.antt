pub mod AnyServing
pub mod Ending
pub mod Leaving
pub mod MadePages
pub mod Running
pub mod Serving
pub mod Well
