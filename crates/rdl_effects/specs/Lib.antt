pub mod Limits
pub mod References
pub mod Fields
pub mod Bodies
pub mod Registers
pub mod Refusals
