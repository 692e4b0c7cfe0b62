pub mod Numbers
pub mod Laws
pub mod NumberLaws
pub mod Operators
pub mod Places
