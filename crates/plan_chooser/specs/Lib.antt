pub mod Covers
pub mod Kinds
pub mod Narrowing
pub mod PlanRows
pub mod Rule
pub mod Sources
pub mod Spans
pub mod Words
