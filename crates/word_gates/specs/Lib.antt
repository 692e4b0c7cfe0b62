pub mod Graphs
pub mod Moving
pub mod Places
pub mod Ripple
pub mod Words
