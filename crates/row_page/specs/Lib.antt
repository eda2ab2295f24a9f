pub mod Layout
pub mod Row
pub mod RowPage
pub mod Slots
