pub mod Loads
pub mod Gathered
pub mod Labels
