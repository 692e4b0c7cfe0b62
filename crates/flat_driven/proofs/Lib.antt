pub mod Inside
pub mod Single
