pub mod BlockMaps
pub mod Counting
pub mod FoundRows
pub mod MapChanges
pub mod MapLines
pub mod MapRows
pub mod Walking
