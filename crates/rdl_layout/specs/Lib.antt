pub mod Sizes
pub mod Laid
pub mod Walks
pub mod Bits
pub mod Misplaced
pub mod Registers
