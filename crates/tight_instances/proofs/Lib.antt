pub mod FullFileLemmas
pub mod FullRowsLemmas
pub mod FullSpaceLemmas
pub mod RunningFullLemmas
pub mod TightInstancesLemmas
