pub mod Circuits
pub mod Counted
pub mod Gates
pub mod Held
pub mod Latches
pub mod Runs
pub mod Sharing
pub mod Values
