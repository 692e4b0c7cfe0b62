pub mod Events
pub mod Graphs
pub mod Laws
pub mod Places
