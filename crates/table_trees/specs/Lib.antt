pub mod RowCells
pub mod SpaceChanges
pub mod TableTrees
pub mod ToldPages
pub mod TreesBeside
