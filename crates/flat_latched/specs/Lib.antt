pub mod Latched
pub mod Least
