pub mod Spelling
pub mod Tree
pub mod Pieces
pub mod Scan
pub mod Lengths
pub mod Closing
pub mod Places
