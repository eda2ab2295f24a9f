pub mod ByteOrder
pub mod Faults
pub mod Fronts
pub mod Listed
pub mod Time
