pub mod Choices
pub mod FoundRows
pub mod SeenTable
pub mod Settled
