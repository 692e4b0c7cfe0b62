pub mod Offences
pub mod Owners
