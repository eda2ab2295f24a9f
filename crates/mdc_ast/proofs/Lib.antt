pub mod DefinitionsLemmas
pub mod FitsLemmas
pub mod KindsLemmas
pub mod PredLemmas
pub mod TestsLemmas
