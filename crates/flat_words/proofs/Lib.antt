pub mod Behind
pub mod Selects
