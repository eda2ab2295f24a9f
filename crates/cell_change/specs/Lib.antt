pub mod ApartIndexes
pub mod ExpectedTables
pub mod RowChanges
