pub mod LiveRids
pub mod Twins
