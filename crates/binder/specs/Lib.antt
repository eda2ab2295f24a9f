pub mod Bounded
pub mod Classes
pub mod Knowing
pub mod Refusing
pub mod Saying
pub mod WholeRows
