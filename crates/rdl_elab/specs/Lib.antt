pub mod Firsts
pub mod Unlike
pub mod Refusals
pub mod OneAnswer
