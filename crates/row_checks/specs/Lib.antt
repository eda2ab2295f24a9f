pub mod Executing
pub mod Filtering
pub mod RowChange
pub mod Seen
pub mod Served
