pub mod Graphs
pub mod Steps
pub mod Sortings
pub mod Feeding
pub mod Orderings
