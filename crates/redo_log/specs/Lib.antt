pub mod Appending
pub mod Bounds
pub mod Checkpointing
pub mod Layout
pub mod Log
pub mod Places
pub mod Replaying
pub mod Standing
