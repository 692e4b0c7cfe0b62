pub mod Firsts
pub mod Bests
