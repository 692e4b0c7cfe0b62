pub mod Bodies
pub mod Faults
pub mod OneAnswer
pub mod Steps
