pub mod ChosenIndexes
pub mod ChosenTrees
pub mod RowEntries
pub mod SoundEntries
