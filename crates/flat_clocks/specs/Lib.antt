pub mod Roles
pub mod Signals
pub mod Events
pub mod Offences
pub mod Least
