pub mod DerivedSpansLemmas
pub mod MadeNumbersLemmas
