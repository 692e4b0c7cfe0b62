pub mod Counters
pub mod Interrupts
