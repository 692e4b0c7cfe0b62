pub mod Asked
pub mod Driven
pub mod Edges
pub mod Lists
