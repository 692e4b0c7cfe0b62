pub mod Drives
pub mod Listed
pub mod Least
pub mod Known
