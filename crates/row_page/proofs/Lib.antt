pub mod BitsLemmas
pub mod ChangingLemmas
pub mod ColumnLemmas
pub mod RowLemmas
pub mod RowPageLemmas
pub mod SlotsLemmas
