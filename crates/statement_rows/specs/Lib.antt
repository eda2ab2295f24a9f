pub mod OtherTables
pub mod RowsAndSpace
pub mod RowsOfStatement
pub mod Turning
