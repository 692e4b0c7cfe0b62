pub mod Bitwise
pub mod Graphs
