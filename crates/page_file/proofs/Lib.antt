pub mod BetweenLemmas
pub mod BytesLemmas
pub mod CoverLemmas
pub mod FrontLemmas
pub mod GrowingLemmas
pub mod LeavesLemmas
pub mod RunsLemmas
