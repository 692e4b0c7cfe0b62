pub mod Bytes
pub mod Conditions
pub mod Machines
pub mod Nexts
pub mod Starts
pub mod States
pub mod Steps
pub mod Turns
