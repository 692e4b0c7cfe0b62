pub mod Steps
pub mod Rules
pub mod Loops
pub mod Turns
pub mod Fronts
