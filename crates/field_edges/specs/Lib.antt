pub mod Edges
pub mod Given
pub mod Kinds
pub mod Made
