pub mod EdgeLemmas
pub mod KeyLemmas
pub mod OrderLemmas
pub mod PartLemmas
pub mod PutLemmas
pub mod RangeLemmas
pub mod ReadLemmas
pub mod TextLemmas
