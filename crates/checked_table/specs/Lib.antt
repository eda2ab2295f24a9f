pub mod ExactDamage
pub mod LeftPages
pub mod MissingPlaces
pub mod WholeChanges
