pub mod FittingLemmas
pub mod MadeValuesLemmas
