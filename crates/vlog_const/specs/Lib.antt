pub mod Literals
pub mod Sizing
pub mod Names
pub mod Sized
pub mod Answers
