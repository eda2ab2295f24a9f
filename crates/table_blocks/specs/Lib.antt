pub mod AroundBlock
pub mod BlockChanges
pub mod BlockNow
pub mod BlockSteps
pub mod Seats
pub mod SeenSlots
