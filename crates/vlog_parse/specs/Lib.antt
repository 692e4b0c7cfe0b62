pub mod LeftOut
pub mod Depth
pub mod Counts
pub mod Nesting
pub mod Refusal
pub mod Top
pub mod Met
pub mod Cut
