pub mod ChangedTables
pub mod CopiedTables
pub mod Effects
pub mod Filterable
pub mod FoundRows
pub mod SessionsLemmas
pub mod TablesLemmas
