pub mod Firsts
pub mod Owning
