pub mod BoxesLemmas
pub mod CausesLemmas
mod Differing
pub mod FetchingLemmas
pub mod FrameLemmas
pub mod MarksLemmas
pub mod MomentsLemmas
pub mod RunsOverPagesLemmas
mod Undone
pub mod WorksLemmas
