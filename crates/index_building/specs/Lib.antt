pub mod FilledIndexes
pub mod IndexSteps
pub mod IndexViews
