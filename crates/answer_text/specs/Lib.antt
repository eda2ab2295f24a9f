pub mod Answering
pub mod BlockCounts
pub mod ExplainedPlan
pub mod Lines
pub mod Wordings
