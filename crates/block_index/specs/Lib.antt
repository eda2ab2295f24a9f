pub mod Cells
pub mod IndexDamage
pub mod ListedCells
pub mod Listing
pub mod Numbered
pub mod PartRanges
pub mod Reading
