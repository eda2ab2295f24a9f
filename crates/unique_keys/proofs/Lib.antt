pub mod ClashLemmas
pub mod ClashRunsLemmas
pub mod MovedTwinsLemmas
pub mod RisingPlacesLemmas
pub mod StandingStayLemmas
pub mod StayingLemmas
pub mod TwinKeysLemmas
pub mod UniqueRowsLemmas
