pub mod ByteTexts
pub mod Calendar
pub mod Fitting
pub mod Order
pub mod Printing
pub mod Rising
pub mod Value
pub mod formers
