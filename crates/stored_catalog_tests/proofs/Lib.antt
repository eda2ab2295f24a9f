mod RowsLemmas
mod TablesLemmas
