pub mod Sizes
pub mod Steps
pub mod Places
pub mod Operations
pub mod Outcomes
pub mod Constants
