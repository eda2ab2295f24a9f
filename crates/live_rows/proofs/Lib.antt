pub mod AmongLemmas
pub mod DoublesLemmas
pub mod LiveRidsLemmas
pub mod LookInTableLemmas
pub mod LookRunsLemmas
pub mod StandingTwinsLemmas
pub mod TwinsLemmas
