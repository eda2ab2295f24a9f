pub mod Faults
pub mod Images
pub mod Layout
pub mod Pieces
