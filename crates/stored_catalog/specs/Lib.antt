pub mod AroundTable
pub mod GivenBack
pub mod NewTables
pub mod StoredDefinitions
pub mod TableSteps
pub mod TreeRuns
