pub mod Edges
pub mod Hits
