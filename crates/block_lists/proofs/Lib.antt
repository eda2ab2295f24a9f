pub mod FirstLemmas
pub mod ManyLemmas
pub mod NumberLemmas
pub mod PartLemmas
pub mod PlaceLemmas
pub mod TreeLemmas
pub mod UniqueLemmas
pub mod WalkLemmas
