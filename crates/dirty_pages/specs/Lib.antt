pub mod Changes
pub mod ChangesView
pub mod Lent
pub mod LentChange
pub mod Table
