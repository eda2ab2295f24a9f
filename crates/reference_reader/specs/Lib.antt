pub mod ReadTables
pub mod ReadPages
