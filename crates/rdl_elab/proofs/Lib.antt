pub mod Earliest
pub mod UnlikeFirsts
pub mod Firsts
pub mod Sizes
pub mod OneAnswer
