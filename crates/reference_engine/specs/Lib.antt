pub mod Sessions
pub mod Tables
