pub mod Lists
pub mod Merging
pub mod Parts
pub mod Places
pub mod Trees
pub mod Walks
