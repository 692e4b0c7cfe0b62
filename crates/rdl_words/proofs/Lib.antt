pub mod Swaps
pub mod Orders
pub mod Sorted
pub mod Firsts
