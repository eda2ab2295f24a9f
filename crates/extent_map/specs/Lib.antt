pub mod Claims
pub mod Damages
pub mod Kinds
pub mod Map
pub mod Owners
pub mod Searches
