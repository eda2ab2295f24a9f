pub mod FitsLemmas
pub mod LeafLemmas
pub mod ListRunsLemmas
pub mod ListedLemmas
pub mod PartsLemmas
pub mod SameValueLemmas
