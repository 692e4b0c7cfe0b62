pub mod Described
pub mod OneAnswer
