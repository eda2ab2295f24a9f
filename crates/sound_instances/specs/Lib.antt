pub mod ChangedPages
pub mod WorkedDatabase
pub mod WorkedEntries
pub mod WorkedPages
pub mod WorkedTables
