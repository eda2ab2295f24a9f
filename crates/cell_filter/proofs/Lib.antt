pub mod CellsLemmas
pub mod MayHoldLemmas
