pub mod GrowingLemmas
pub mod JudgingLemmas
pub mod RestingLemmas
pub mod SoundFilesLemmas
pub mod ToldLemmas
