pub mod Latches
pub mod Cones
pub mod Runs
pub mod Queries
pub mod Meaning
pub mod Laws
