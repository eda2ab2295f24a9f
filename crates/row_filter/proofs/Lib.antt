pub mod JudgingLemmas
pub mod NamingLemmas
pub mod ReadingLemmas
