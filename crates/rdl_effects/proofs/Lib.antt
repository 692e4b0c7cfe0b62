pub mod Conflicts
pub mod Numbers
