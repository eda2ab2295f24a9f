pub mod EndingLemmas
pub mod ExactDamageLemmas
pub mod MarkedChangesLemmas
pub mod SamePagesLemmas
