pub mod Counted
pub mod Faults
pub mod Gathering
pub mod Named
pub mod QueryAnswers
pub mod QueryPages
