pub mod Leasts
pub mod Steps
pub mod Whole
pub mod Opens
