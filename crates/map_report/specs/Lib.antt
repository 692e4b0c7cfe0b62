pub mod Digits
pub mod Laws
pub mod Names
pub mod Reports
