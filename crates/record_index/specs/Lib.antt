pub mod FoundRids
pub mod OneIndex
pub mod RecordIndexes
pub mod SoundRows
pub mod SweptLeaf
