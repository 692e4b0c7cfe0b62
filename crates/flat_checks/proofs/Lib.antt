pub mod Assigning
pub mod Pushing
pub mod Answering
