pub mod Edges
pub mod KeyOrder
pub mod Keys
pub mod Spans
