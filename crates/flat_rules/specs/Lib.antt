pub mod Rules
pub mod Own
pub mod Fits
