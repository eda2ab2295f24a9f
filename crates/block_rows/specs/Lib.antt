pub mod CellColumns
pub mod CountedRows
pub mod Giving
pub mod HeldRows
pub mod ListedSlots
pub mod PageRows
pub mod Seats
pub mod SeenRows
