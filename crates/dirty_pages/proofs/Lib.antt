pub mod Indexed
pub mod Order
pub mod Overlays
pub mod Steps
pub mod Written
