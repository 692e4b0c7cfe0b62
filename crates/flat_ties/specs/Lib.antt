pub mod Shapes
pub mod Ties
pub mod Sources
pub mod Steps
