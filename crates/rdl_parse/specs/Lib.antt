pub mod Depth
pub mod Refusal
pub mod Grammar
