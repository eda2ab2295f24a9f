pub mod EndedLemmas
pub mod PassesLemmas
