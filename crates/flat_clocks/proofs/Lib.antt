pub mod Outermost
pub mod Signalling
pub mod Readings
pub mod Whole
