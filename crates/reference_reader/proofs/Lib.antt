pub mod NoPagesLemmas
pub mod ReadBlocksLemmas
pub mod ReadMapsLemmas
pub mod ReadRowsLemmas
pub mod ReadTablesLemmas
pub mod RowNumbersLemmas
