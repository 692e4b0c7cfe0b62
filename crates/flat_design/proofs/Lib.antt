pub mod Folds
pub mod Frames
pub mod FlowLemmas
pub mod Assigning
pub mod Sizes
pub mod Running
