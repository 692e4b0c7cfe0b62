pub mod Joins
pub mod Signs
