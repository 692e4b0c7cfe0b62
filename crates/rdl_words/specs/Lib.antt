pub mod Numbers
pub mod Spots
pub mod Clashes
pub mod Words
