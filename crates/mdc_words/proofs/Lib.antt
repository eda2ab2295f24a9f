pub mod FaultsLemmas
pub mod ListedLemmas
pub mod PlacesLemmas
pub mod TimeLemmas
