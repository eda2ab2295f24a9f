pub mod Resting
pub mod SoundFile
pub mod Verdict
pub mod Written
